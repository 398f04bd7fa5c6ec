-- One turn of the piece loop: a stroke and a piece keep what the loop carries, and a piece of no frames after a stroke ends the segment.
-- The idea: what is carried is `kept`, and that from here the passes come to the segment's end z (`Reach`). Assumes nothing.
use Prim.Native.Nat.{ℕ, ◌+◌, ◌-◌, ◌*◌, ◌≤◌, ◌<◌}
use native.Mathlib.Omega.{arith}
use mathlib.Core.Path.{◌≡◌, refl, sym, ap, ◌∙◌, subst}
use mathlib.Core.Bool.{Bool, true, false, cond}
use mathlib.Core.List.{List}
use borrow.Author.Tests.{eqb-false}
use lib.IntN.{pos}
use lib.ListN.{length}
use lib.Signed.{lt_z}
use lib.Ieee.{Float}
use Rattle.sampler_player.specs.declared.Points.{Points}
use Rattle.sampler_player.specs.declared.Points.TheVariants.{Absent, Between}
use Rattle.sampler_player.specs.declared.Setup.{Setup}
use Rattle.sampler_player.specs.declared.Player.{Player}
use Rattle.sampler_player.specs.Clock.{clock_at}
use Rattle.sampler_player.specs.Pieces.{Lent, Going, Segment, left_by, interval, rendered, segment}
use Rattle.sampler_player.specs.inner.Kept.{kept}
use Rattle.sampler_player.specs.inner.Stroke.{loop_length, due, caught_to, looped, stroke_at, stroke_of}
use Rattle.sampler_player.specs.inner.Lending.{starting, ending, Ready}
use Rattle.sampler_player.proofs.Fuel.{Reach, reach_next, reach_jump, reach_end}
use Rattle.sampler_player.proofs.Passes.{Over, going, within_remaining, pass_sounds, pass_ends}
use Rattle.sampler_player.proofs.Assigned.{kept_less}
use Rattle.sampler_player.proofs.Enough.{segment_over}
use Rattle.sampler_player.proofs.Stroke.{catches_when, stroke, stroke_sounds}
use Rattle.sampler_player.proofs.Pass.{stroked_kept, rendered_kept}

-- what the loop carries, with x frames of the block to come
pub record Carried (s : Setup) (b : Lent) (z : Going) (x : ℕ) (g : Going) : Type 0 where
  pub is : kept s x g.player ≡ true
  pub reach : Reach (clock_at s.rate) s b g z

-- a piece that the code renders is the definition's
pub piece_is : (s : Setup) (b : Lent) (n : ℕ) (g : Going) (p : Player) (out : List Float)
    → ending p out 1 ≡ left_by (rendered (clock_at s.rate) s b n (starting g.player g.out g.at n))
    → rendered (clock_at s.rate) s b n g ≡ record { player = p; out = out; at = g.at + n; remaining = g.remaining - n; pieces = g.pieces + 1 }
unfolding rendered
piece_is s b n g p out e =
    ap (λ (t : Segment). record { player = t.player; out = t.out; at = g.at + n; remaining = g.remaining - n; pieces = g.pieces + 1 }) (sym e)

module _ (s : Setup) (b : Lent) (lo : 8000 ≤ s.rate) (hi : s.rate ≤ 96000) (x : ℕ) (few : x ≤ 4096) (g : Going) (some_left : 0 < g.remaining) (inside : g.remaining ≤ x) where
  module _ (z : Going) (over : Over (clock_at s.rate) s b z) (c : Carried s b z x g) where
    -- the stroke
    strokes : (q : Points) → g.player.points ≡ q → Carried s b z x (going (stroke_at s.rate q g.player) g)
    strokes Absent q = c
    strokes (Between from end) q = go (lt_z (pos (loop_length from end * g.player.completed)) (due s.rate end g.player)) refl
      where
        go : (t : Bool) → lt_z (pos (loop_length from end * g.player.completed)) (due s.rate end g.player) ≡ t
            → Carried s b z x (going (cond t (looped s.rate from (caught_to s.rate from end g.player) g.player) g.player) g)
        go true t =
            record {
              is = stroked_kept s b lo hi x from end g.player few q t c.is;
              reach =
                  reach_jump (clock_at s.rate) s b (caught_to s.rate from end g.player - g.player.completed) g
                  (going (looped s.rate from (caught_to s.rate from end g.player) g.player) g) z c.reach
                  (stroke s lo hi x few from end b g c.is some_left inside q t) over;
            }
        go false t = c

    pub stroke_carried : Carried s b z x (going (stroke_of s.rate g.player) g)
    unfolding stroke_of
    stroke_carried = strokes g.player.points refl

    -- a piece of n frames
    module _ (table : length b.table ≡ s.fade) where
      pub piece_carried : (n : ℕ) → n ≡ interval (clock_at s.rate) s g.player g.remaining → 0 < n → n ≤ x → Carried s b z (x - n) (rendered (clock_at s.rate) s b n g)
      piece_carried n i p l =
          record {
            is = rendered_kept s b lo hi table (x - n) n g p (omega arith) (subst (λ (y : ℕ). kept s y g.player ≡ true) split c.is);
            reach = reach_next (clock_at s.rate) s b g (rendered (clock_at s.rate) s b n g) z c.reach (pass_sounds (clock_at s.rate) s b g n (sym i) p) over;
          }
        where
          split : x ≡ n + (x - n)
          split = omega arith

  -- a piece of no frames after the stroke
  module _ (is : kept s x g.player ≡ true) where
    ends : (q : Points) → g.player.points ≡ q → interval (clock_at s.rate) s (stroke_at s.rate q g.player) g.remaining ≡ 0 → Over (clock_at s.rate) s b (going (stroke_at s.rate q g.player) g)
    ends Absent q i = pass_ends (clock_at s.rate) s b g some_left q i
    ends (Between from end) q i = go (lt_z (pos (loop_length from end * g.player.completed)) (due s.rate end g.player)) refl i
      where
        go : (t : Bool) → lt_z (pos (loop_length from end * g.player.completed)) (due s.rate end g.player) ≡ t
            → interval (clock_at s.rate) s (cond t (looped s.rate from (caught_to s.rate from end g.player) g.player) g.player) g.remaining ≡ 0
            → Over (clock_at s.rate) s b (going (cond t (looped s.rate from (caught_to s.rate from end g.player) g.player) g.player) g)
        go true t i = absurd (let h = stroke_sounds s lo hi x few from end g.player g.remaining is some_left inside q t in omega (arith, h, i))
        go false t i =
            absurd (eqb-false (interval (clock_at s.rate) s g.player g.remaining) 0 (catches_when s lo hi x few from end g.player g.remaining is some_left inside q ∙ t) i)

    pub stroke_ends : interval (clock_at s.rate) s (stroke_of s.rate g.player) g.remaining ≡ 0 → Over (clock_at s.rate) s b (going (stroke_of s.rate g.player) g)
    unfolding stroke_of
    stroke_ends i = ends g.player.points refl i

-- what the loop over a segment's pieces carries: the segment has `remaining` frames, up to frame `last` of an output of `size` entries, and ends at z
pub record Along (s : Setup) (b : Lent) (z : Going) (last remaining size : ℕ) (g : Going) : Type 0 where
  pub place : g.at + g.remaining ≡ last
  pub count : g.pieces + g.remaining ≤ remaining
  pub long : length g.out ≡ size
  pub carried : Carried s b z (b.block - g.at) g

-- a turn of the loop at g, which finds frames left; p is what the stroke answers
pub record Turning (s : Setup) (b : Lent) (o : List Float) (z g : Going) (p : Player) : Type 0 where
  pub ready : Ready s b o
  pub over : Over (clock_at s.rate) s b z
  pub some_left : 0 < g.remaining
  pub inside : g.at + g.remaining ≤ b.block
  pub carried : Carried s b z (b.block - g.at) g
  pub is : p ≡ stroke_of s.rate g.player

-- a turn of the call's loop: what the call asks, that frames are left, what the loop carries, and what the stroke answers
pub turning : {s : Setup} {b : Lent} {q : Player} {o : List Float} {remaining : ℕ} {g : Going} (p : Player) (at : ℕ) → Ready s b o → at + remaining ≤ b.block → kept s (b.block - at) p ≡ true → 0 < g.remaining
    → Along s b (segment (clock_at s.rate) s b (starting p o at remaining)) (at + remaining) remaining (length o) g → q ≡ stroke_of s.rate g.player
    → Turning s b o (segment (clock_at s.rate) s b (starting p o at remaining)) g q
turning {s} {b} {q} {o} {remaining} {g} p at r w k h l e =
    record {
      ready = r;
      over = segment_over s b r.slow r.fast r.table (b.block - at) (omega (arith, r.block)) (starting p o at remaining) (omega arith) k;
      some_left = h;
      inside = omega (arith, l.place, w);
      carried = l.carried;
      is = e;
    }

module _ {s : Setup} {b : Lent} {o : List Float} {z g : Going} {p : Player} (t : Turning s b o z g p) where
  room : g.remaining ≤ b.block - g.at
  room = let w = t.inside in omega (arith, w)

  few : b.block - g.at ≤ 4096
  few = let w = t.ready.block in omega (arith, w)

  turn_stroke : Carried s b z (b.block - g.at) (going p g)
  turn_stroke =
      subst (λ (q : Player). Carried s b z (b.block - g.at) (going q g)) (sym t.is)
      (stroke_carried s b t.ready.slow t.ready.fast (b.block - g.at) few g t.some_left room z t.over t.carried)

  pub turn_kept : (x : ℕ) → x ≤ b.block - g.at → kept s x p ≡ true
  turn_kept x l = kept_less s (b.block - g.at) x p l few turn_stroke.is

  pub turn_left : kept s g.remaining p ≡ true
  turn_left = turn_kept g.remaining room

  -- a piece of n frames
  module _ (n : ℕ) (h : n ≡ interval (clock_at s.rate) s p g.remaining) where
    pub turn_count : n ≤ g.remaining
    turn_count = subst (λ (m : ℕ). m ≤ g.remaining) (sym h) (within_remaining (clock_at s.rate) s p g.remaining)

    pub turn_piece : 0 < n → (q : Player) (out : List Float) → ending q out 1 ≡ left_by (rendered (clock_at s.rate) s b n (starting p g.out g.at n))
        → Carried s b z (b.block - (g.at + n)) (record { player = q; out = out; at = g.at + n; remaining = g.remaining - n; pieces = g.pieces + 1 })
    turn_piece some q out e =
        let m = turn_count in
        let l : n ≤ b.block - g.at = let w = room in omega (arith, m, w) in
        let left : b.block - g.at - n ≡ b.block - (g.at + n) = omega arith in
        subst (λ (x : ℕ). Carried s b z x (record { player = q; out = out; at = g.at + n; remaining = g.remaining - n; pieces = g.pieces + 1 })) left
        (subst (λ (h : Going). Carried s b z (b.block - g.at - n) h) (piece_is s b n (going p g) q out e)
        (piece_carried s b t.ready.slow t.ready.fast (b.block - g.at) few (going p g) t.some_left room z t.over turn_stroke t.ready.table n h some l))

    pub turn_end : n ≡ 0 → going p g ≡ z
    turn_end none =
        reach_end (clock_at s.rate) s b (going p g) z turn_stroke.reach
        (subst (λ (q : Player). Over (clock_at s.rate) s b (going q g)) (sym t.is)
        (stroke_ends s b t.ready.slow t.ready.fast (b.block - g.at) few g t.some_left room t.carried.is
        (ap (λ (q : Player). interval (clock_at s.rate) s q g.remaining) (sym t.is) ∙ sym h ∙ none)))
