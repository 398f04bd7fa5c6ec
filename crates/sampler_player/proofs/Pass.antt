-- One pass keeps `kept`: a catch-up, all catch-ups at one stroke, and a piece, which takes its frames off those to come.
-- The idea: T(n) is at most n times 2^20 units; a catch-up is below `caught_to`, so below 2^27. Assumes nothing.
use Prim.Native.Nat.{ℕ, ◌+◌, ◌*◌, ◌^◌, ◌≤◌, ◌<◌}
use native.Mathlib.Nat.{add-zero, le_of_lt, mul-le-mul_right, mul-le-mul_left}
use native.Mathlib.Omega.{arith}
use mathlib.Core.Path.{◌≡◌, sym, ◌∙◌, subst}
use mathlib.Core.Bool.{Bool, true, false, not}
use borrow.Author.Tests.{eq-eqb}
use lib.Dec.{T, leb, leb→le, nleb→lt}
use lib.IntN.{ℤ, pos, ◌+ℤ◌}
use lib.ListN.{length}
use lib.Signed.{lt_z}
use lib.Ieee.Nearest.{closest}
use Rattle.laws.proofs.Near.{Near}
use Rattle.laws.proofs.Minus.{Minus, above, below, parts, plus_minus}
use Rattle.timestamp.specs.declared.Timestamp.{Timestamp}
use Rattle.timestamp.specs.Time.{time_of}
use Rattle.timestamp.proofs.Time.{T-near}
use Rattle.sampler_voice.specs.Voices.{mix}
use Rattle.sampler_player.specs.declared.Points.TheVariants.{Between}
use Rattle.sampler_player.specs.declared.Setup.{Setup}
use Rattle.sampler_player.specs.declared.Player.{Player}
use Rattle.sampler_player.specs.Clock.{clock_at}
use Rattle.sampler_player.specs.Assign.{assign}
use Rattle.sampler_player.specs.Pieces.{Lent, sides, Going, interval, loop_back, rendered}
use Rattle.sampler_player.specs.inner.Kept.{kept, voices_kept}
use Rattle.sampler_player.proofs.Assign.{counted}
use Rattle.sampler_player.proofs.Kept.{opened, closed, stands, stands_within, stands_at}
use Rattle.sampler_player.proofs.Held.{mix_active}
use Rattle.sampler_player.proofs.Voices.{mix_voices}
use Rattle.sampler_player.proofs.Assigned.{assign_kept}
use Rattle.sampler_player.proofs.Due.{looping, kept_counted, minus_none}
use Rattle.sampler_player.specs.inner.Stroke.{loop_length, due, caught_to}
use Rattle.sampler_player.proofs.Stroke.{catches_when, stroke_few, stroke_more, stroked}

-- T(n) is at most n times 2^20
brief : (R n t : ℕ) → 8000 ≤ R → 0 < n → Near t (n * 2 ^ 32) R → t ≤ n * 2 ^ 20
brief R n t lo p h = go (leb t (n * 2 ^ 20)) (leb→le t (n * 2 ^ 20)) (nleb→lt t (n * 2 ^ 20))
  where
    go : (x : Bool) → (T x → t ≤ n * 2 ^ 20) → (T (not x) → n * 2 ^ 20 < t) → t ≤ n * 2 ^ 20
    go true k j = k tt
    go false k j =
        let y : (n * 2 ^ 20 + 1) * R ≤ t * R = mul-le-mul_right R (omega (arith, j tt)) in
        let z : n * 8000 ≤ n * R = mul-le-mul_left n lo in
        let u : 2 * (t * R) ≤ 2 * (n * 2 ^ 32) + R = h.0 in
        absurd (omega arith)

module _ (s : Setup) (b : Lent) (lo : 8000 ≤ s.rate) (hi : s.rate ≤ 96000) where
  -- ---- a pass that catches up
  pub caught_few : (x l : ℕ) (from end : Timestamp) (p : Player) → x ≤ 4096 → 0 < l → l ≤ x → kept s x p ≡ true → p.points ≡ Between from end
      → interval (clock_at s.rate) s p l ≡ 0 → p.completed + 1 < 2 ^ 27
  caught_few x l from end p m a h k q z =
      let t : lt_z (pos (loop_length from end * p.completed)) (due s.rate end p) ≡ true =
      sym (catches_when s lo hi x m from end p l k a h q) ∙ eq-eqb (interval (clock_at s.rate) s p l) 0 z in
      let c = stroke_more s lo hi x m from end p k q t in
      let d = stroke_few s lo hi x m from end p k q t in
      omega (arith, c, d)

  -- c loops completed, and the voice assigned at the loop start
  counted_kept : (x c : ℕ) (from end : Timestamp) (p : Player) → x ≤ 4096 → p.points ≡ Between from end → c ≤ 2 ^ 27 → kept s x p ≡ true
      → kept s x (assign (clock_at s.rate) from.bits (counted c p)) ≡ true
  counted_kept x c from end p m q h k =
      let i = looping s x from end p m q k in
      let e = i.loop.early in
      assign_kept s x from.bits i.loop.a 0 (counted c p) hi m (minus_none from.bits i.loop.a i.loop.start) (omega arith) (omega arith) (kept_counted s x c p h k)

  pub back_kept : (x : ℕ) (from end : Timestamp) (p : Player) → x ≤ 4096 → p.points ≡ Between from end → p.completed < 2 ^ 27 → kept s x p ≡ true
      → kept s x (loop_back (clock_at s.rate) s from p) ≡ true
  unfolding loop_back
  back_kept x from end p m q c k = counted_kept x (p.completed + 1) from end p m q (omega arith) k

  -- all of them at one stroke
  pub stroked_kept : (x : ℕ) (from end : Timestamp) (p : Player) → x ≤ 4096 → p.points ≡ Between from end
      → lt_z (pos (loop_length from end * p.completed)) (due s.rate end p) ≡ true → kept s x p ≡ true → kept s x (stroked s from end p) ≡ true
  stroked_kept x from end p m q t k = counted_kept x (caught_to s.rate from end p) from end p m q (le_of_lt (stroke_few s lo hi x m from end p k q t)) k

  -- ---- a pass that renders n frames
  module _ (table : length b.table ≡ s.fade) where
    pub rendered_kept : (x n : ℕ) (g : Going) → 0 < n → n + x ≤ 4096 → kept s (n + x) g.player ≡ true
        → kept s x (rendered (clock_at s.rate) s b n g).player ≡ true
    unfolding rendered
    rendered_kept x n g a m k =
        let p = g.player in
        let o = opened s (n + x) p k in
        let h = stands (n + x) p.position.bits m o.position in
        let u = h.high in
        let v = h.low in
        let t = closest (n * 2 ^ 32) s.rate in
        let e = T-near s.rate n (omega arith) (omega arith) (omega arith) in
        let f : t ≤ n * 2 ^ 20 = brief s.rate n t lo a e.1 in
        closed s x (rendered (clock_at s.rate) s b n g).player
        (record {
          active = mix_active b.recording s.frames b.table b.block (sides s b) p.active g.at n p.voices g.out ∙ o.active;
          voices =
              subst (λ (F : ℕ). voices_kept F x (mix b.recording s.frames b.table b.block (sides s b) g.at n p.voices g.out).voices ≡ true) table
              (mix_voices b.recording s.frames b.table b.block (sides s b) g.at n x p.voices g.out
              (subst (λ (F : ℕ). voices_kept F (n + x) p.voices ≡ true) (sym table) o.voices));
          position =
              stands_within x (p.position.bits +ℤ time_of s.rate n)
              (stands_at x (p.position.bits +ℤ time_of s.rate n) (above p.position.bits + t) (below p.position.bits + 0) (omega arith)
              (subst (λ (z : ℤ). Minus (p.position.bits +ℤ z) (above p.position.bits + t) (below p.position.bits + 0)) (sym e.0)
              (plus_minus p.position.bits (pos t) (above p.position.bits) (below p.position.bits) t 0 (parts p.position.bits) (add-zero t)))
              (omega (arith, u, f)) (omega (arith, v)));
          loops = o.loops;
        })
