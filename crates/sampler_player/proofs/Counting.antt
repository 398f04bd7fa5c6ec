-- A segment counts its pieces on from those before it and does not look at them: so a segment counted from none serves every place.
-- The idea: no pass looks at the count. Assumes nothing.
use Prim.Native.Nat.{ℕ, zero, suc, ◌+◌, ◌^◌}
use native.Mathlib.Nat.{add-zero, add_assoc}
use mathlib.Core.Path.{◌≡◌, refl, sym, ap, ◌∙◌}
use mathlib.Core.Option.{Option, none, some}
use Rattle.sampler_player.specs.declared.Points.{Points}
use Rattle.sampler_player.specs.declared.Points.TheVariants.{Absent, Between}
use Rattle.sampler_player.specs.declared.Setup.{Setup}
use Rattle.sampler_player.specs.Clock.{Clock}
use Rattle.sampler_player.specs.Pieces.{Lent, Going, interval, after, rendered, caught_up, pass_of, pass, passes, segment}
use Rattle.sampler_player.specs.inner.Lending.{starting}

-- with n pieces before
abbrev pub adding : ℕ → Going → Going
adding n g = record { player = g.player; out = g.out; at = g.at; remaining = g.remaining; pieces = n + g.pieces }

mapped : ℕ → Option Going → Option Going
mapped n none = none
mapped n (some g) = some (adding n g)

module _ (k : Clock) (s : Setup) (b : Lent) (n : ℕ) where
  caught_adding : (q : Points) (g : Going) → caught_up k s b q (adding n g) ≡ mapped n (caught_up k s b q g)
  unfolding caught_up mapped
  caught_adding Absent g = refl
  caught_adding (Between from end) g = refl

  pass_of_adding : (m : ℕ) (g : Going) → pass_of k s b m (adding n g) ≡ mapped n (pass_of k s b m g)
  unfolding pass_of rendered mapped
  pass_of_adding zero g = caught_adding g.player.points g
  pass_of_adding (suc m) g =
      let h = rendered k s b (suc m) g in
      ap (λ (c : ℕ). some (record { player = h.player; out = h.out; at = h.at; remaining = h.remaining; pieces = c })) (add_assoc n g.pieces 1)

  pass_adding : (r : ℕ) (g : Going) → pass k s b r (adding n g) ≡ mapped n (pass k s b r g)
  unfolding pass mapped
  pass_adding zero g = refl
  pass_adding (suc r) g = pass_of_adding (interval k s g.player (suc r)) g

  after_adding : (go : Going → Going) → ((h : Going) → go (adding n h) ≡ adding n (go h)) → (g : Going) (o : Option Going) → after go (adding n g) (mapped n o) ≡ adding n (after go g o)
  unfolding mapped
  after_adding go ih g none = refl
  after_adding go ih g (some h) = ih h

  passes_adding : (f : ℕ) (g : Going) → passes k s b f (adding n g) ≡ adding n (passes k s b f g)
  unfolding passes
  passes_adding zero g = refl
  passes_adding (suc f) g =
      ap (after (λ h. passes k s b f h) (adding n g)) (pass_adding g.remaining g) ∙ after_adding (λ h. passes k s b f h) (passes_adding f) g (pass k s b g.remaining g)

-- a segment from anywhere, counted from none
pub segment_from : (k : Clock) (s : Setup) (b : Lent) (g : Going) → segment k s b g ≡ adding g.pieces (segment k s b (starting g.player g.out g.at g.remaining))
unfolding segment
segment_from k s b g =
    ap (λ (n : ℕ). passes k s b (g.remaining + (2 ^ 27 + 1)) (record { player = g.player; out = g.out; at = g.at; remaining = g.remaining; pieces = n })) (sym (add-zero g.pieces))
    ∙ passes_adding k s b g.pieces (g.remaining + (2 ^ 27 + 1)) (starting g.player g.out g.at g.remaining)
