-- What "kept sizes are in range" bounds, as facts on numbers, and that making refuses the other sizes.
-- The idea: a size that no rule refuses passes each test, and a test passed is a bound. Assumes nothing.
use Prim.Native.Nat.{ℕ, ◌≤◌}
use mathlib.Core.Path.{◌≡◌, refl, sym, ap, ◌∙◌}
use mathlib.Core.Bool.{Bool, true, false, ◌&&◌, ◌||◌, not, cond, and-eq-true_iff}
use native.Mathlib.Omega.{arith}
use borrow.Author.Tests.{leb-true, ltb-false, eqb-true, ne_eqb, not-false}
use lib.Dec.{leb, eqb}
use Rattle.laws.specs.declared.Refusal.{Refusal}
use Rattle.laws.specs.Rules.{number_of, first_broken}
use Rattle.laws.proofs.Refusals.{not_zero}
use Rattle.laws.proofs.Tests.{neither}
use Rattle.sampler_player.specs.declared.Setup.{Setup}
use Rattle.sampler_processor.specs.Numbers.{rate_bad, channels_bad, recording_long, fade_long, sizes_bad, make_order}

pub record Sized (s : Setup) : Type 0 where
  pub rate_low : 8000 ≤ s.rate
  pub rate_high : s.rate ≤ 96000
  pub channels_low : 1 ≤ s.channels
  pub channels_high : s.channels ≤ 2
  pub frames_high : s.frames ≤ 4194304
  pub fade_high : s.fade ≤ 4800

-- 2
pub channels_in : (c : ℕ) → channels_bad c ≡ false → (1 ≤ c) × (c ≤ 2)
channels_in c e = go (eqb c 1) refl (not-false (eqb c 1 || eqb c 2) e)
  where
    go : (b : Bool) → eqb c 1 ≡ b → (b || eqb c 2) ≡ true → (1 ≤ c) × (c ≤ 2)
    go true h t = let k = eqb-true c 1 h in (omega arith, omega arith)
    go false h t = let k = eqb-true c 2 t in (omega arith, omega arith)

pub sized : (s : Setup) → sizes_bad s ≡ false → Sized s
sized s e =
    let a = neither (rate_bad s.rate) _ e in
    let b = neither (channels_bad s.channels) (recording_long s.frames || fade_long s.fade) a.1 in
    let d = neither (recording_long s.frames) (fade_long s.fade) b.1 in
    let r = (and-eq-true_iff (leb 8000 s.rate) (leb s.rate 96000)).0 (not-false (leb 8000 s.rate && leb s.rate 96000) a.0) in
    let c = channels_in s.channels b.0 in
    record {
      rate_low = leb-true 8000 s.rate r.0;
      rate_high = leb-true s.rate 96000 r.1;
      channels_low = c.0;
      channels_high = c.1;
      frames_high = ltb-false 4194304 s.frames d.0;
      fade_high = ltb-false 4800 s.fade d.1;
    }

-- ---- the order of making

-- a size is out of range exactly when a number of the order is given
sizes_number : (s : Setup) → sizes_bad s ≡ not (eqb (first_broken (make_order s)) 0)
sizes_number s = go (rate_bad s.rate) (channels_bad s.channels) (recording_long s.frames) (fade_long s.fade)
  where
    go : (a b c d : Bool) → (a || (b || (c || d))) ≡ not (eqb (cond a 1 (cond b 2 (cond c 3 (cond d 4 0)))) 0)
    go true b c d = refl
    go false true c d = refl
    go false false true d = refl
    go false false false true = refl
    go false false false false = refl

pub sizes_taken : (s : Setup) → 0 ≡ first_broken (make_order s) → sizes_bad s ≡ false
sizes_taken s e = sizes_number s ∙ ap (λ (n : ℕ). not (eqb n 0)) (sym e)

pub sizes_refused : (s : Setup) (r : Refusal) → number_of r ≡ first_broken (make_order s) → sizes_bad s ≡ true
sizes_refused s r e = sizes_number s ∙ ap (λ (n : ℕ). not (eqb n 0)) (sym e) ∙ ap not (ne_eqb (number_of r) 0 (not_zero r))
