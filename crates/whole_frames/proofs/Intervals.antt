-- A player in time beside the same in whole frames (`Fits`): its next piece has as many frames in both, while the budget lasts.
-- The idea: the end in whole frames is a difference of natural numbers, and the end in time is `record_piece` or `loop_piece`. Assumes nothing.
use mathlib.Core.Path.{◌≡◌, refl, sym, ap, ◌∙◌, subst}
use Prim.Native.Nat.{ℕ, ◌+◌, ◌-◌, ◌*◌, ◌^◌, ◌≤◌, min}
use native.Mathlib.Nat.{add-zero, add_comm}
use native.Mathlib.Omega.{arith}
use mathlib.Core.Option.{Option, none, some}
use lib.IntN.{ℤ, pos, ◌+ℤ◌, ◌-ℤ◌, ◌*ℤ◌}
use Rattle.laws.proofs.Near.{Near}
use Rattle.laws.proofs.Minus.{Minus, plus_minus, less_minus, earlier_minus, nat_minus, minus_pos}
use Rattle.timestamp.specs.declared.Timestamp.{Timestamp}
use Rattle.timestamp.specs.Time.{time_of, earlier, loop_end}
use Rattle.timestamp.specs.Answer.{fitting}
use Rattle.timestamp.proofs.Drift.{Drift}
use Rattle.sampler_player.specs.declared.Points.{Points}
use Rattle.sampler_player.specs.declared.Points.TheVariants.{Absent, Between}
use Rattle.sampler_player.specs.declared.Setup.{Setup}
use Rattle.sampler_player.specs.declared.Player.{Player}
use Rattle.sampler_player.specs.Clock.{clock_at, whole_frames, not_negative}
use Rattle.sampler_player.specs.Pieces.{end_of, nearer, interval}
use Rattle.sampler_player.proofs.Sized.{above_minus}
use Rattle.whole_frames.specs.Whole.{Loop, no_loop, loop, points_in, Budget}
use Rattle.whole_frames.proofs.Late.{to}
use Rattle.whole_frames.proofs.Ends.{record_piece, loop_piece}

-- ---- in whole frames
-- p with position n, start f and loop q in whole frames
abbrev pub as_whole : ℕ → ℕ → Loop → Player → Player
as_whole n f q p = record { voices = p.voices; active = p.active; points = points_in q; position = record { bits = pos n }; start = record { bits = pos f }; completed = p.completed }

-- up to an end A − B
whole_to : (n l : ℕ) (E : ℤ) (A B : ℕ) → Minus E A B → min (not_negative (earlier (pos n +ℤ pos l) E -ℤ pos n)) l ≡ min l (A - (B + n))
whole_to n l E A B h =
    let z = earlier (pos n +ℤ pos l) E -ℤ pos n in
    ap (λ (x : ℕ). min x l)
    (above_minus z (min (n + l + B) A + 0) (B + n)
    (less_minus (earlier (pos n +ℤ pos l) E) (pos n) (min (n + l + B) A) B n 0 (earlier_minus (pos n +ℤ pos l) E (n + l + B) A B refl h) (add-zero n)))
    ∙ tidy n l A B
  where
    tidy : (n l A B : ℕ) → min (min (n + l + B) A + 0 - (B + n)) l ≡ min l (A - (B + n))
    tidy n l A B = omega arith

-- a loop's end: f + x − s, and f more for each completed loop
whole_end : (s x f c : ℕ) → Minus ((pos (f + x) -ℤ pos s) +ℤ (pos (f + x) -ℤ pos x) *ℤ pos c) (f + x + f * c) s
whole_end s x f c =
    let one : pos (f + x) -ℤ pos x ≡ pos f = minus_pos (pos (f + x) -ℤ pos x) (f + x) x f (nat_minus (f + x) x) refl in
    subst (λ (z : ℤ). Minus ((pos (f + x) -ℤ pos s) +ℤ z *ℤ pos c) (f + x + f * c) s) (sym one)
    (subst (λ (b : ℕ). Minus ((pos (f + x) -ℤ pos s) +ℤ pos (f * c)) (f + x + f * c) b) (add-zero s) (plus_minus (pos (f + x) -ℤ pos s) (pos (f * c)) (f + x) s (f * c) 0 (nat_minus (f + x) s) (add-zero (f * c))))

-- ---- beside each other
pub record FitsLoop (R x y : ℕ) (from end : Timestamp) : Type 0 where
  pub ta : ℕ
  pub m : ℕ
  pub f : ℕ
  pub starts : from.bits ≡ pos ta
  pub ends : end.bits ≡ pos (m + ta)
  pub frames : y ≡ f + x
  pub most : m + ta ≤ 2 ^ 42
  pub near_start : Near ta (x * 2 ^ 32) R
  pub near_end : Near (m + ta) ((f + x) * 2 ^ 32) R

abbrev pub FitsPoints : ℕ → Loop → Points → Type 0
FitsPoints R no_loop Absent = Unit {0}
FitsPoints R no_loop (Between from end) = ⊥
FitsPoints R (loop x y) Absent = ⊥
FitsPoints R (loop x y) (Between from end) = FitsLoop R x y from end

-- after k pieces of n frames together: the position is within the drift, and start and loop points are nearest
pub record Fits (R k n s : ℕ) (q : Loop) (p : Player) : Type 0 where
  pub at : ℕ
  pub position : p.position.bits ≡ pos at
  pub drift : Drift R k n at
  pub from : ℕ
  pub start : p.start.bits ≡ pos from
  pub most : from ≤ 2 ^ 42
  pub near : Near from (s * 2 ^ 32) R
  pub points : FitsPoints R q p.points

module _ (s : Setup) (low : 8000 ≤ s.rate) (high : s.rate ≤ 96000) (short : s.frames ≤ 4194304) where
  interval_to : (p : Player) (l : ℕ) → interval (clock_at s.rate) s p l ≡ to s.rate l p.position.bits (end_of (clock_at s.rate) s p p.points)
  unfolding interval
  interval_to p l = go (end_of (clock_at s.rate) s p p.points)
    where
      go : (o : Option ℤ) → min ((clock_at s.rate).near (nearer (clock_at s.rate) s (p.position.bits +ℤ time_of s.rate l) o -ℤ p.position.bits)) l ≡ to s.rate l p.position.bits o
      go none = refl
      go (some e) = refl

  module _ (k n f : ℕ) (p : Player) (l P ts : ℕ) (few : l ≤ 4096) (budget : Budget s.rate k p.completed) (room : P ≤ 2 ^ 48 + 2 ^ 46)
      (position : p.position.bits ≡ pos P) (drift : Drift s.rate k n P) (start : p.start.bits ≡ pos ts) (most : ts ≤ 2 ^ 42) (near : Near ts (f * 2 ^ 32) s.rate) where
    -- the piece at these points, in time and in whole frames
    timed_at : (q : Loop) (w : Points) → FitsPoints s.rate q w
        → to s.rate l (pos P) (end_of (clock_at s.rate) s p w) ≡ min (not_negative (nearer whole_frames s (pos n +ℤ pos l) (end_of whole_frames s (as_whole n f q p) (points_in q)) -ℤ pos n)) l
    unfolding end_of
    timed_at no_loop Absent h =
        record_piece s.rate k p.completed l P n s.frames (omega arith) (omega arith) (omega arith) budget (omega arith) (omega arith) drift
        ∙ sym (whole_to n l (pos s.frames) s.frames 0 (add-zero s.frames) ∙ ap (λ (x : ℕ). min l (s.frames - x)) (add_comm 0 n ∙ add-zero n))
    timed_at no_loop (Between from end) h = absurd h
    timed_at (loop x y) Absent h = absurd h
    timed_at (loop x y) (Between from end) h =
        let c = p.completed in
        ap (λ (z : ℤ). to s.rate l (pos P) (fitting (loop_end s.rate (end.bits -ℤ p.start.bits) z c))) length_is
        ∙ ap (λ (z : ℤ). to s.rate l (pos P) (fitting (loop_end s.rate z (pos h.m) c))) (ap (λ (z : ℤ). z -ℤ p.start.bits) h.ends ∙ ap (λ (z : ℤ). pos (h.m + h.ta) -ℤ z) start)
        ∙ loop_piece s.rate k c l P n f x h.f ts h.ta h.m (omega arith) (omega arith) (omega arith) budget room most h.most drift near h.near_start h.near_end
        ∙ sym (ap (λ (y : ℕ). min (not_negative (earlier (pos n +ℤ pos l) ((pos y -ℤ pos f) +ℤ (pos y -ℤ pos x) *ℤ pos c) -ℤ pos n)) l) h.frames
        ∙ whole_to n l ((pos (h.f + x) -ℤ pos f) +ℤ (pos (h.f + x) -ℤ pos x) *ℤ pos c) (h.f + x + h.f * c) f (whole_end f x h.f c))
      where
        length_is : end.bits -ℤ from.bits ≡ pos h.m
        length_is =
            ap (λ (z : ℤ). z -ℤ from.bits) h.ends ∙ ap (λ (z : ℤ). pos (h.m + h.ta) -ℤ z) h.starts
            ∙ minus_pos (pos (h.m + h.ta) -ℤ pos h.ta) (h.m + h.ta) h.ta h.m (nat_minus (h.m + h.ta) h.ta) refl

  pub same_interval : (k n f : ℕ) (q : Loop) (p : Player) (l : ℕ) (i : Fits s.rate k n f q p) → l ≤ 4096 → Budget s.rate k p.completed → i.at ≤ 2 ^ 48 + 2 ^ 46
      → interval (clock_at s.rate) s p l ≡ interval whole_frames s (as_whole n f q p) l
  unfolding interval
  same_interval k n f q p l i few budget room =
      interval_to p l ∙ ap (λ (z : ℤ). to s.rate l z (end_of (clock_at s.rate) s p p.points)) i.position
      ∙ timed_at k n f p l i.at i.from few budget room i.position i.drift i.start i.most i.near q p.points i.points
