-- One pass in time and in whole frames, beside each other: the same piece or the same loop-back, and one ends where the other does.
-- The idea: a pass is its interval, which is the same in both (Intervals); a piece adds 1 to k, and a loop-back assigns at the same frame. Assumes nothing.
use mathlib.Core.Path.{◌≡◌, refl, sym, ap, ◌∙◌, subst}
use Prim.Native.Nat.{ℕ, zero, suc, ◌+◌, ◌-◌, ◌*◌, ◌^◌, ◌≤◌, ◌<◌}
use native.Mathlib.Nat.{add-zero, mul-le-mul_right, le_of_mul-le-mul_right}
use native.Mathlib.Omega.{arith}
use mathlib.Core.Bool.{Bool, true, false, cond}
use mathlib.Core.List.{[]}
use mathlib.Core.Option.{Option, none, some}
use lib.IntN.{ℤ, pos, ◌+ℤ◌}
use lib.ListN.{length}
use lib.Ieee.Nearest.{closest}
use Rattle.timestamp.specs.declared.Timestamp.{Timestamp}
use Rattle.timestamp.specs.Time.{time_of, frame_near}
use Rattle.timestamp.proofs.Time.{T-near}
use Rattle.timestamp.proofs.Frames.{S-near}
use Rattle.timestamp.proofs.Drift.{Drift, one_more}
use Rattle.sampler_player.specs.declared.Points.{Points}
use Rattle.sampler_player.specs.declared.Points.TheVariants.{Absent, Between}
use Rattle.sampler_player.specs.declared.Setup.{Setup}
use Rattle.sampler_player.specs.declared.Player.{Player}
use Rattle.sampler_player.specs.Clock.{clock_at, whole_frames}
use Rattle.sampler_player.specs.Assign.{active_at, stop, begin, assign_at}
use Rattle.sampler_player.specs.Pieces.{Lent, Going, interval, loop_back, piece_of, rendered, caught_up, pass_of, pass}
use Rattle.sampler_player.proofs.Assign.{back_points, back_position, back_start}
use Rattle.sampler_player.proofs.Fuel.{Over, within_remaining}
use Rattle.whole_frames.specs.Whole.{Loop, no_loop, loop, points_in, Budget}
use Rattle.whole_frames.proofs.Intervals.{as_whole, FitsPoints, Fits, same_interval}

-- ---- the numbers
-- a budget covers what came before
pub budget_before : (R k c k' c' : ℕ) → k ≤ k' → c ≤ c' → Budget R k' c' → Budget R k c
budget_before R k c k' c' p q h =
    let x : (k + 2 * c + 4) * R ≤ (k' + 2 * c' + 4) * R = mul-le-mul_right R (omega arith) in
    omega arith

-- the position stays in range: n + left does not change
in_range : (R k c n P left : ℕ) → 0 < R → Budget R k c → (n + left) * 2 ^ 32 ≤ (2 ^ 48 + 2 ^ 40) * R → Drift R k n P → P ≤ 2 ^ 48 + 2 ^ 46
in_range R k c n P left r b h d = le_of_mul-le-mul_right {k = R} (omega arith) r

-- ---- Assign does the same beside it
chosen_same : (n f : ℕ) (q : Loop) (t : Bool) (v : ℕ) (p : Player) → cond t (as_whole n f q p) (begin v (stop (as_whole n f q p))) ≡ as_whole n f q (cond t p (begin v (stop p)))
unfolding begin stop
chosen_same n f q true v p = refl
chosen_same n f q false v p = refl

assign_same : (n f : ℕ) (q : Loop) (v : ℕ) (p : Player) → assign_at v (as_whole n f q p) ≡ as_whole n f q (assign_at v p)
unfolding assign_at
assign_same n f q v p = chosen_same n f q (active_at p.active v p.voices) v p

fits_kept : (R k n f : ℕ) (q : Loop) (p w : Player) → w.position ≡ p.position → w.start ≡ p.start → w.points ≡ p.points → Fits R k n f q p → Fits R k n f q w
fits_kept R k n f q p w x y z i =
    record {
      at = i.at;
      position = ap (λ (t : Timestamp). t.bits) x ∙ i.position;
      drift = i.drift;
      from = i.from;
      start = ap (λ (t : Timestamp). t.bits) y ∙ i.start;
      most = i.most;
      near = i.near;
      points = subst (λ (t : Points). FitsPoints R q t) (sym z) i.points;
    }

module _ (s : Setup) (b : Lent) (f : ℕ) (q : Loop) (low : 8000 ≤ s.rate) (high : s.rate ≤ 96000) (short : s.frames ≤ 4194304) where
  abbrev pub beside : ℕ → Going → Going
  beside n g = record { player = as_whole n f q g.player; out = g.out; at = g.at; remaining = g.remaining; pieces = g.pieces }

  -- after k pieces of n frames together
  pub record Stands (k n : ℕ) (g : Going) : Type 0 where
    pub fits : Fits s.rate k n f q g.player
    pub few : g.remaining ≤ 4096
    pub room : (n + g.remaining) * 2 ^ 32 ≤ (2 ^ 48 + 2 ^ 40) * s.rate

  -- ---- a pass: the same in whole frames, and where it leads
  pub record Beside (k n : ℕ) (g h : Going) (o : Option Going) : Type 0 where
    pub to : ℕ
    pub whole : o ≡ some (beside to h)
    pub stands : Stands (k + length (piece_of (g.remaining - h.remaining) [])) to h

  abbrev pub Next : ℕ → ℕ → Going → Option Going → Option Going → Type 0
  Next k n g none o = o ≡ none
  Next k n g (some h) o = Beside k n g h o

  next_caught : (x : Loop) (w : Points) (k n : ℕ) (g : Going) → FitsPoints s.rate x w → Stands k n g → Next k n g (caught_up (clock_at s.rate) s b w g) (caught_up whole_frames s b (points_in x) (beside n g))
  unfolding caught_up loop_back
  next_caught no_loop Absent k n g h i = refl
  next_caught no_loop (Between from end) k n g h i = absurd h
  next_caught (loop x y) Absent k n g h i = absurd h
  next_caught (loop x y) (Between from end) k n g h i =
      let p = g.player in
      let w : Player = record { voices = p.voices; active = p.active; points = p.points; position = p.position; start = p.start; completed = p.completed + 1 } in
      let m = h.most in
      let v : frame_near s.rate from.bits ≡ x = ap (λ (z : ℤ). frame_near s.rate z) h.starts ∙ S-near s.rate x h.ta (omega arith) (omega (arith, m)) h.near_start in
      let u = frame_near s.rate from.bits in
      let g' : Going = record { player = assign_at u w; out = g.out; at = g.at; remaining = g.remaining; pieces = g.pieces } in
      record {
        to = n;
        whole = ap (λ (y : Player). some (record { player = y; out = g.out; at = g.at; remaining = g.remaining; pieces = g.pieces })) (assign_same n f q x w ∙ ap (λ (z : ℕ). as_whole n f q (assign_at z w)) (sym v));
        stands =
            subst (λ (z : ℕ). Stands (k + length (piece_of z [])) n g') (level g.remaining)
            (subst (λ (z : ℕ). Stands z n g') (sym (add-zero k))
            (record { fits = fits_kept s.rate k n f q p (assign_at u w) (back_position (clock_at s.rate) s from p) (back_start (clock_at s.rate) s from p) (back_points (clock_at s.rate) s from p) i.fits; few = i.few; room = i.room }));
      }
    where
      level : (r : ℕ) → 0 ≡ r - r
      level r = omega arith

  next_piece : (j : ℕ) (k n : ℕ) (g : Going) → suc j ≤ g.remaining → Stands k n g → Beside k n g (rendered (clock_at s.rate) s b (suc j) g) (some (rendered whole_frames s b (suc j) (beside n g)))
  unfolding rendered
  next_piece j k n g h i =
      let few = i.few in
      let room = i.room in
      let x = T-near s.rate (suc j) (omega arith) (omega arith) (omega (arith, few)) in
      let t = closest (suc j * 2 ^ 32) s.rate in
      let z = i.fits in
      record {
        to = n + suc j;
        whole = refl;
        stands =
            subst (λ (d : ℕ). Stands (k + length (piece_of d [])) (n + suc j) (rendered (clock_at s.rate) s b (suc j) g)) (level g.remaining (suc j) h)
            (record {
              fits =
                  record {
                    at = z.at + t;
                    position = ap (λ (y : ℤ). y +ℤ time_of s.rate (suc j)) z.position ∙ ap (λ (y : ℤ). pos z.at +ℤ y) x.0;
                    drift = turned s.rate k n z.at (suc j) t (one_more s.rate k n z.at (suc j) t x.1 z.drift);
                    from = z.from;
                    start = z.start;
                    most = z.most;
                    near = z.near;
                    points = z.points;
                  };
              few = omega (arith, few);
              room = subst (λ (y : ℕ). y * 2 ^ 32 ≤ (2 ^ 48 + 2 ^ 40) * s.rate) (still n g.remaining (suc j) h) room;
            });
      }
    where
      level : (r i : ℕ) → i ≤ r → i ≡ r - (r - i)
      level r i h = omega arith

      turned : (R k n P i t : ℕ) → Drift R (suc k) (i + n) (t + P) → Drift R (k + 1) (n + i) (P + t)
      turned R k n P i t d = omega arith

      still : (n l i : ℕ) → i ≤ l → n + l ≡ n + i + (l - i)
      still n l i h = omega arith

  next_of : (i k n : ℕ) (g : Going) → i ≤ g.remaining → Stands k n g → Next k n g (pass_of (clock_at s.rate) s b i g) (pass_of whole_frames s b i (beside n g))
  unfolding pass_of
  next_of zero k n g h i = next_caught q g.player.points k n g i.fits.points i
  next_of (suc j) k n g h i = next_piece j k n g h i

  pub next_pass : (r k n : ℕ) (g : Going) → r ≡ g.remaining → Stands k n g → Budget s.rate k g.player.completed
      → Next k n g (pass (clock_at s.rate) s b r g) (pass whole_frames s b r (beside n g))
  unfolding pass
  next_pass zero k n g e i w = refl
  next_pass (suc r) k n g e i w =
      let few = i.few in
      let z = i.fits in
      let m : interval (clock_at s.rate) s g.player (suc r) ≡ interval whole_frames s (as_whole n f q g.player) (suc r) =
      same_interval s low high short k n f q g.player (suc r) z (omega (arith, e, few)) w (in_range s.rate k g.player.completed n z.at g.remaining (omega arith) w i.room z.drift) in
      subst (λ (y : ℕ). Next k n g (pass_of (clock_at s.rate) s b (interval (clock_at s.rate) s g.player (suc r)) g) (pass_of whole_frames s b y (beside n g))) m
      (next_of (interval (clock_at s.rate) s g.player (suc r)) k n g (subst (λ (y : ℕ). interval (clock_at s.rate) s g.player (suc r) ≤ y) e (within_remaining (clock_at s.rate) s g.player (suc r))) i)

  -- the segment has ended in whole frames where it has in time
  pub over_same : (k n : ℕ) (g : Going) → Stands k n g → Budget s.rate k g.player.completed → Over (clock_at s.rate) s b g → Over whole_frames s b (beside n g)
  over_same k n g i u h =
      subst (λ (o : Option Going). Next k n g o (pass whole_frames s b g.remaining (beside n g))) h (next_pass g.remaining k n g refl i u)
