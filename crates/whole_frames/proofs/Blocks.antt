-- The first half inside a block: up to any later point the position grows by T of each piece told, unless a start is applied; and the pieces reported are those told.
-- The idea: an event's frame lies in the block (Along), so each piece is short enough for T-near, and only a start moves the position. Assumes nothing.
use Prim.Native.Nat.{ℕ, suc, ◌+◌, ◌-◌, ◌^◌, ◌≤◌}
use native.Mathlib.Nat.{le_refl}
use native.Mathlib.Omega.{arith}
use mathlib.Core.Path.{◌≡◌, refl, sym, ap, ◌∙◌}
use mathlib.Core.Bool.{Bool, true, false, not, ◌&&◌, and-eq-true_iff, false≢true}
use mathlib.Core.List.{List, [], ◌∷◌, ◌++◌}
use lib.IntN.{ℤ, pos, ◌-ℤ◌}
use lib.ListN.{length}
use Rattle.timestamp.specs.declared.Timestamp.{Timestamp}
use Rattle.sampler_event.specs.declared.Kind.{Kind}
use Rattle.sampler_event.specs.declared.Kind.TheVariants.{Start, StartImmediate, Stop, EnableLoop, CancelLoop, CancelAll}
use Rattle.sampler_event.specs.declared.Event.{Event}
use Rattle.event_processor.specs.declared.Queue.{Queue}
use Rattle.event_processor.specs.Queue.{without, each}
use Rattle.sampler_player.specs.declared.Setup.{Setup}
use Rattle.sampler_player.specs.declared.Player.{Player}
use Rattle.sampler_player.specs.Clock.{clock_at}
use Rattle.sampler_player.specs.Assign.{stop}
use Rattle.sampler_player.specs.Events.{apply}
use Rattle.sampler_player.specs.Pieces.{Lent, segment, passes, renderings, travel}
use Rattle.sampler_processor.specs.Block.{Running, Ended, frame_of, up_to, applied, is_taken, onward, block}
use Rattle.whole_frames.specs.Run.{Told, then, towards, pieces_to, told_on, told_of, next_stop, past, Inside, here, later, is_start, no_start}
use Rattle.sampler_player.proofs.Trace.{traced}
use Rattle.whole_frames.proofs.Lasting.{at_most_wider, lasting}
use Rattle.whole_frames.proofs.Drift.{EachTimed, each_timed, each_append, count_append, travel_append}
use Rattle.whole_frames.proofs.Along.{Along, frame_inside, along_next, stop_inside}

-- ---- from p to w by what is told
pub record Moves (R : ℕ) (a : Told) (p w : Player) : Type 0 where
  pub each_timed : EachTimed R a.pieces
  pub position : no_start a → w.position.bits ≡ travel (clock_at R) p.position.bits a.pieces

each_parts : (P : Event → Bool) (xs ys : List Event) → each P (xs ++ ys) ≡ true → (each P xs ≡ true) × (each P ys ≡ true)
each_parts P [] ys h = (refl, h)
each_parts P (x ∷ xs) ys h =
    let a = (and-eq-true_iff (P x) (each P (xs ++ ys))).0 h in
    let b = each_parts P xs ys a.1 in
    ((and-eq-true_iff (P x) (each P xs)).1 (a.0, b.0), b.1)

pub no_start_parts : (a b : Told) → no_start (then a b) → no_start a × no_start b
no_start_parts a b h = each_parts (λ (e : Event). not (is_start e.kind)) a.events b.events h

pub moves_then : (R : ℕ) (a b : Told) (p w x : Player) → Moves R a p w → Moves R b w x → Moves R (then a b) p x
moves_then R a b p w x m n =
    record {
      each_timed = each_append R a.pieces b.pieces m.each_timed n.each_timed;
      position = λ h.
          let k = no_start_parts a b h in
          n.position k.1 ∙ ap (λ (z : ℤ). travel (clock_at R) z b.pieces) (m.position k.0) ∙ sym (travel_append R p.position.bits a.pieces b.pieces);
    }

pub moves_none : (R : ℕ) (p : Player) → Moves R (record { pieces = []; events = [] }) p p
moves_none R p = record { each_timed = tt; position = λ h. refl }

-- ---- an event that is no start leaves the position
applied_position : (R : ℕ) (k : Kind) (d : ℤ) (p : Player) → (not (is_start k) && true) ≡ true → (apply R k d p).position ≡ p.position
unfolding apply stop
applied_position R (Start u) d p h = absurd (false≢true h)
applied_position R StartImmediate d p h = absurd (false≢true h)
applied_position R Stop d p h = refl
applied_position R (EnableLoop from end) d p h = refl
applied_position R CancelLoop d p h = refl
applied_position R CancelAll d p h = refl

module _ (s : Setup) (b : Lent) (s0 : ℕ) (low : 8000 ≤ s.rate) (high : s.rate ≤ 96000) (few_frames : b.block ≤ 4096) where
  -- ---- a segment, and any number of its passes
  pub passes_move : (f n : ℕ) (r : Running) → f ≤ b.block
      → Moves s.rate (record { pieces = renderings (clock_at s.rate) s b n (towards s b (pos s0) f r); events = [] }) r.player (passes (clock_at s.rate) s b n (towards s b (pos s0) f r)).player
  passes_move f n r h =
      let t = traced (clock_at s.rate) s b n (towards s b (pos s0) f r) in
      let l = lasting (clock_at s.rate) s b n (towards s b (pos s0) f r) in
      let ms = renderings (clock_at s.rate) s b n (towards s b (pos s0) f r) in
      record {
        each_timed = each_timed s.rate 4096 ms (omega arith) (omega arith) (omega arith) (at_most_wider (f - r.done) 4096 ms (omega arith) l.sizes);
        position = λ k. t.position;
      }

  past_moves : (e : Event) (r : Running) → frame_of s.rate (pos s0) r.now e.time.bits ≤ b.block
      → Moves s.rate (record { pieces = pieces_to s b (pos s0) (frame_of s.rate (pos s0) r.now e.time.bits) r; events = e ∷ [] }) r.player (past s b (pos s0) e r).player
  unfolding up_to applied segment
  past_moves e r h =
      let f = frame_of s.rate (pos s0) r.now e.time.bits in
      let m = passes_move f (f - r.done + (2 ^ 27 + 1)) r h in
      let u = up_to s b (pos s0) f r in
      record {
        each_timed = m.each_timed;
        position = λ k. ap (λ (t : Timestamp). t.bits) (applied_position s.rate e.kind (u.now -ℤ e.time.bits) u.player k) ∙ m.position refl;
      }

  last_moves : (r : Running) → Moves s.rate (record { pieces = pieces_to s b (pos s0) b.block r; events = [] }) r.player (up_to s b (pos s0) b.block r).player
  unfolding up_to segment
  last_moves r = passes_move b.block (b.block - r.done + (2 ^ 27 + 1)) r (le_refl _)

  -- ---- the rest of a block, and any point in it
  pub block_moves : (lo k : ℕ) (es : List Event) (q : Queue) (r : Running) → Along s b s0 low high few_frames lo k es r
      → Moves s.rate (told_of s b (pos s0) es r) r.player (block s b (pos s0) es q r).running.player
  unfolding told_of block
  block_moves lo k [] q r a = last_moves r
  block_moves lo k (e ∷ es) q r a =
      go (λ t. told_of s b (pos s0) es t) (λ p t. block s b (pos s0) es p t) (is_taken s b (pos s0) e r) (frame_inside s b s0 low high few_frames lo k e es r a)
      (λ h. block_moves a.ordered.0 (suc k) es (without q) (past s b (pos s0) e r) (along_next s b s0 low high few_frames lo k e es r a h))
    where
      go : (tell : Running → Told) (on : Queue → Running → Ended) (x : Bool) → (x ≡ true → frame_of s.rate (pos s0) r.now e.time.bits ≤ b.block)
          → (x ≡ true → Moves s.rate (tell (past s b (pos s0) e r)) (past s b (pos s0) e r).player (on (without q) (past s b (pos s0) e r)).running.player)
          → Moves s.rate (told_on s b (pos s0) tell e r x) r.player (onward s b (pos s0) on e q r x).running.player
      go tell on true h ih = moves_then s.rate _ (tell (past s b (pos s0) e r)) r.player (past s b (pos s0) e r).player _ (past_moves e r (h refl)) (ih refl)
      go tell on false h ih = last_moves r

  pub inside_moves : (lo k : ℕ) (es : List Event) (r : Running) (a : Told) (p : Player) → Along s b s0 low high few_frames lo k es r → Inside s b (pos s0) es r a p → Moves s.rate a r.player p
  inside_moves lo k es r a p w (here n) = passes_move (next_stop s b (pos s0) es r) n r (stop_inside s b s0 low high few_frames lo k es r w)
  inside_moves lo k (e ∷ es) r a p w (later t i) =
      moves_then s.rate _ _ r.player (past s b (pos s0) e r).player p (past_moves e r (frame_inside s b s0 low high few_frames lo k e es r w t))
      (inside_moves w.ordered.0 (suc k) es (past s b (pos s0) e r) _ p (along_next s b s0 low high few_frames lo k e es r w t) i)

  -- ---- "The pieces reported equal the number of such renderings"
  up_to_count : (f : ℕ) (r : Running) → (up_to s b (pos s0) f r).pieces ≡ r.pieces + length (pieces_to s b (pos s0) f r)
  unfolding up_to segment
  up_to_count f r = (traced (clock_at s.rate) s b (f - r.done + (2 ^ 27 + 1)) (towards s b (pos s0) f r)).count

  pub block_count : (es : List Event) (q : Queue) (r : Running) → (block s b (pos s0) es q r).running.pieces ≡ r.pieces + length (told_of s b (pos s0) es r).pieces
  unfolding told_of block applied
  block_count [] q r = up_to_count b.block r
  block_count (e ∷ es) q r =
      go (λ t. told_of s b (pos s0) es t) (λ p t. block s b (pos s0) es p t) (block_count es) (is_taken s b (pos s0) e r)
    where
      past_count : (past s b (pos s0) e r).pieces ≡ r.pieces + length (pieces_to s b (pos s0) (frame_of s.rate (pos s0) r.now e.time.bits) r)
      past_count = up_to_count (frame_of s.rate (pos s0) r.now e.time.bits) r

      go : (tell : Running → Told) (on : Queue → Running → Ended) → ((q : Queue) (r : Running) → (on q r).running.pieces ≡ r.pieces + length (tell r).pieces) → (x : Bool)
          → (onward s b (pos s0) on e q r x).running.pieces ≡ r.pieces + length (told_on s b (pos s0) tell e r x).pieces
      go tell on ih true =
          let f = frame_of s.rate (pos s0) r.now e.time.bits in
          let t = (tell (past s b (pos s0) e r)).pieces in
          ih (without q) (past s b (pos s0) e r) ∙ ap (λ (n : ℕ). n + length t) past_count ∙ sym (count_append r.pieces (pieces_to s b (pos s0) f r) t)
      go tell on ih false = up_to_count b.block r
