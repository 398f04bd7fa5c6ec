-- A block's part in time and in whole frames: the same output, voices, active voice, completed loops and pieces, and the two stay beside each other for the next part.
-- The idea: a part is a segment, and segments agree (Passes). Assumes nothing.
use mathlib.Core.Path.{◌≡◌, sym, ap, ◌∙◌, subst}
use Prim.Native.Nat.{ℕ, ◌+◌, ◌-◌, ◌*◌, ◌^◌, ◌≤◌}
use native.Mathlib.Nat.{mul-le-mul_left, mul-le-mul_right}
use native.Mathlib.Omega.{arith}
use mathlib.Core.Bool.{false}
use mathlib.Core.List.{List}
use borrow.Author.Tests.{ltb-false}
use lib.IntN.{ℤ, pos}
use lib.ListN.{length}
use lib.Signed.{lt_z}
use Rattle.timestamp.specs.declared.Timestamp.{Timestamp}
use Rattle.timestamp.proofs.Drift.{Drift}
use Rattle.sampler_player.specs.declared.Points.{Points}
use Rattle.sampler_player.specs.declared.Setup.{Setup}
use Rattle.sampler_player.specs.declared.Player.{Player}
use Rattle.sampler_player.specs.Clock.{Clock, clock_at}
use Rattle.sampler_player.specs.Pieces.{Going, segment, renderings}
use Rattle.sampler_player.proofs.Fuel.{Over, segment_ended}
use Rattle.whole_frames.specs.Whole.{Loop, Nearest, NearestPoints, Part, going_in, given_of, whole_part, whole_pieces, Budget}
use Rattle.whole_frames.proofs.Lasting.{lasting}
use Rattle.whole_frames.proofs.Intervals.{as_whole}
use Rattle.whole_frames.proofs.Placed.{Placed}
use Rattle.whole_frames.proofs.Same.{Stands, budget_before}
use Rattle.whole_frames.proofs.Passes.{passes_same}
use Rattle.whole_frames.proofs.Nearest.{Follows, fits_of}

-- position at most 2^48, and a block more
room : (R k c n P left : ℕ) → 8000 ≤ R → Budget R k c → P ≤ 2 ^ 48 → left ≤ 4096 → Drift R k n P → (n + left) * 2 ^ 32 ≤ (2 ^ 48 + 2 ^ 40) * R
room R k c n P left r b h l d = let x : P * R ≤ 2 ^ 48 * R = mul-le-mul_right R h in omega arith

pub at_most : (z : ℤ) (n m : ℕ) → z ≡ pos n → lt_z (pos m) z ≡ false → n ≤ m
at_most z n m e h = ltb-false m n (subst (λ (y : ℤ). lt_z (pos m) y ≡ false) e h)

-- ---- a part
module _ (s : Setup) (d : Part) (f : ℕ) (q : Loop) (low : 8000 ≤ s.rate) (high : s.rate ≤ 96000) (short : s.frames ≤ 4194304) (few : d.until ≤ 4096) where
  abbrev pub timed_part : Player → Going
  timed_part p = segment (clock_at s.rate) s d.lent (going_in p d)

  abbrev pub timed_pieces : Player → List ℕ
  timed_pieces p = renderings (clock_at s.rate) s d.lent (d.until - d.from + (2 ^ 27 + 1)) (going_in p d)

  pub record Agrees (k : ℕ) (p : Player) (w : Player) : Type 0 where
    pub given : given_of (timed_part p).out (timed_part p).player (timed_pieces p) ≡ given_of (whole_part s w d).out (whole_part s w d).player (whole_pieces s w d)
    pub to : ℕ
    pub player : (whole_part s w d).player ≡ as_whole to f q (timed_part p).player
    pub follows : Follows s.rate (k + length (timed_pieces p)) to f q (timed_part p).player

  pub part_completed : (p : Player) → p.completed ≤ (timed_part p).player.completed
  unfolding segment
  part_completed p = (lasting (clock_at s.rate) s d.lent (d.until - d.from + (2 ^ 27 + 1)) (going_in p d)).completed

  pub part_same : (k n : ℕ) (p : Player) (i : Follows s.rate k n f q p) → Placed s p → i.at ≤ 2 ^ 48 → Budget s.rate (k + length (timed_pieces p)) (timed_part p).player.completed
      → Agrees k p (as_whole n f q p)
  unfolding segment
  part_same k n p i g h u =
      let z = d.until - d.from + (2 ^ 27 + 1) in
      let t = lasting (clock_at s.rate) s d.lent z (going_in p d) in
      let v = budget_before s.rate k p.completed (k + length (timed_pieces p)) (timed_part p).player.completed (omega arith) t.completed u in
      let y : Stands s d.lent f q low high short k n (going_in p d) =
      record {
        fits = fits_of s k n f q p high g i;
        few = omega arith;
        room = room s.rate k p.completed n i.at (d.until - d.from) low v h (omega arith) i.drift;
      } in
      let e = passes_same s d.lent f q low high short z k n (going_in p d) y u in
      record {
        given = sym (ap (λ (x : Going). given_of x.out x.player (whole_pieces s (as_whole n f q p) d)) e.whole ∙ ap (λ (ms : List ℕ). given_of (timed_part p).out (timed_part p).player ms) e.pieces);
        to = e.to;
        player = ap (λ (x : Going). x.player) e.whole;
        follows =
            record {
              at = e.stands.fits.at;
              position = e.stands.fits.position;
              drift = e.stands.fits.drift;
              start = subst (λ (x : Timestamp). Nearest s.rate x f) (sym t.start) i.start;
              points = subst (λ (x : Points). NearestPoints s.rate x q) (sym t.points) i.points;
            };
      }

-- within the budget a segment ends by itself at either clock, and never by the bound on its passes
pub part_over : (t : Clock) (s : Setup) (d : Part) (w : Player) (k : ℕ) → 8000 ≤ s.rate → Budget s.rate k (segment t s d.lent (going_in w d)).player.completed
    → Over t s d.lent (segment t s d.lent (going_in w d))
part_over t s d w k low u = segment_ended t s d.lent (going_in w d) (few (segment t s d.lent (going_in w d)).player.completed u)
  where
    few : (c : ℕ) → Budget s.rate k c → c ≤ 2 ^ 27
    few c h = let x : c * 8000 ≤ c * s.rate = mul-le-mul_left c low in omega arith
