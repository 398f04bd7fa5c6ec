-- Calls to which no event comes: each block is one part, and all of them join (Joined).
-- The idea: with no event taken, a block is its last segment alone (`quiet_block`); commands and refusals change nothing that plays. Assumes nothing.
use mathlib.Core.Path.{◌≡◌, refl, sym, subst}
use Prim.Native.Nat.{ℕ, zero, suc, ◌+◌, ◌^◌, ◌≤◌}
use native.Mathlib.Nat.{le_refl, le_trans}
use native.Mathlib.Omega.{arith}
use mathlib.Core.Bool.{Bool, true, false, cond}
use mathlib.Core.List.{List, [], ◌∷◌, ◌++◌, append-eq-nil_iff}
use lib.IntN.{ℤ}
use lib.ListN.{length}
use lib.Ieee.{Float}
use Rattle.sampler_event.specs.declared.Event.{Event}
use Rattle.laws.specs.Rules.{first_broken}
use Rattle.event_processor.specs.declared.Queue.{Queue}
use Rattle.event_processor.specs.Queue.{pending}
use Rattle.sampler_player.specs.declared.Setup.{Setup}
use Rattle.sampler_player.specs.declared.Player.{Player}
use Rattle.sampler_player.specs.Pieces.{Lent}
use Rattle.sampler_processor.specs.declared.Leg.{Leg}
use Rattle.sampler_processor.specs.Numbers.{render_order}
use Rattle.sampler_processor.specs.Block.{Running, Ended, frame_of, is_taken, up_to, onward, block}
use Rattle.sampler_processor.specs.Calls.{rendered_by, render}
use Rattle.whole_frames.specs.Run.{Told, pieces_to, told_on, told_of, next_stop, Call, submitted, rendered, opening, told_by, told_at, leg_after, told_all, leg_after_all}
use Rattle.whole_frames.specs.Whole.{Loop, given_of, only_taken, parts_at, given_at, parts, given, Budget}
use Rattle.whole_frames.proofs.Drift.{count_append}
use Rattle.whole_frames.proofs.Accepted.{Accepted, accepted}
use Rattle.whole_frames.proofs.Calls.{submit_kept, call_setup}
use Rattle.whole_frames.proofs.Placed.{placed_loops}
use Rattle.whole_frames.proofs.Nearest.{Follows}
use Rattle.whole_frames.proofs.Parts.{at_most}
use Rattle.whole_frames.proofs.Same.{budget_before}
use Rattle.whole_frames.proofs.Joined.{Joined, joined_none, joined_then, part_joined, part_grows}

-- ---- a block to which no event comes
pub record Quiet (s : Setup) (b : Lent) (start : ℤ) (es : List Event) (q : Queue) (r : Running) : Type 0 where
  pub ended : block s b start es q r ≡ record { running = up_to s b start b.block r; queue = q }
  pub pieces : (told_of s b start es r).pieces ≡ pieces_to s b start b.block r
  pub goes_to : next_stop s b start es r ≡ b.block

pub quiet_block : (s : Setup) (b : Lent) (start : ℤ) (es : List Event) (q : Queue) (r : Running) → (told_of s b start es r).events ≡ [] → Quiet s b start es q r
unfolding told_of block
quiet_block s b start [] q r h = record { ended = refl; pieces = refl; goes_to = refl }
quiet_block s b start (e ∷ es) q r h =
    let k = go (λ t. told_of s b start es t) (λ p t. block s b start es p t) (is_taken s b start e r) h in
    record { ended = k.0; pieces = k.1; goes_to = k.2 }
  where
    go : (tell : Running → Told) (on : Queue → Running → Ended) (x : Bool) → (told_on s b start tell e r x).events ≡ []
        → (onward s b start on e q r x ≡ record { running = up_to s b start b.block r; queue = q }) × ((told_on s b start tell e r x).pieces ≡ pieces_to s b start b.block r)
        × (cond x (frame_of s.rate start r.now e.time.bits) b.block ≡ b.block)
    go tell on true h = absurd (let z : ◌≡◌ {A = ℕ} 0 1 = cc in omega arith)
    go tell on false h = (refl, refl, refl)

-- ---- a call that renders, by its number
module _ (l : Leg) (b : Lent) (out : List Float) (start : ℤ) (f : ℕ) (q : Loop) where
  abbrev Heard : ℕ → ℕ → Player → List ℕ → List Float → Type 0
  Heard k x w ms o = Joined l.setup f q k x l.player w ms (given_of o w ms ∷ []) (record { lent = b; from = 0; until = b.block; out = out; pieces = 0 } ∷ [])

  block_joined : Accepted l b start → (told_of l.setup b start (pending l.queue) (opening l out start)).events ≡ [] → (k x : ℕ) → Follows l.setup.rate k x f q l.player
      → Budget l.setup.rate (k + length (told_of l.setup b start (pending l.queue) (opening l out start)).pieces)
      (block l.setup b start (pending l.queue) l.queue (opening l out start)).running.player.completed
      → Heard k x (block l.setup b start (pending l.queue) l.queue (opening l out start)).running.player (told_of l.setup b start (pending l.queue) (opening l out start)).pieces
      (block l.setup b start (pending l.queue) l.queue (opening l out start)).running.out
  block_joined c none k x i u =
      let r = opening l out start in
      let t = quiet_block l.setup b start (pending l.queue) l.queue r none in
      subst (λ (e : Ended). Budget l.setup.rate (k + length (told_of l.setup b start (pending l.queue) r).pieces) e.running.player.completed
      → Heard k x e.running.player (told_of l.setup b start (pending l.queue) r).pieces e.running.out) (sym t.ended)
      (subst (λ (ms : List ℕ). Budget l.setup.rate (k + length ms) (up_to l.setup b start b.block r).player.completed
      → Heard k x (up_to l.setup b start b.block r).player ms (up_to l.setup b start b.block r).out) (sym t.pieces)
      (part_joined l.setup f q b start b.block c.sizes.rate_low c.sizes.rate_high c.sizes.frames_high c.few_frames k x r i (placed_loops l.setup l.player c.loops)
      (at_most l.player.position.bits i.at (2 ^ 48) i.position c.position))) u

  render_joined : (n : ℕ) → (n ≡ 0 → Accepted l b start) → (told_by n l b out start).events ≡ [] → (k x : ℕ) → Follows l.setup.rate k x f q l.player
      → Budget l.setup.rate (k + length (told_by n l b out start).pieces) (rendered_by n l b out start).answer.leg.player.completed
      → Joined l.setup f q k x l.player (rendered_by n l b out start).answer.leg.player (told_by n l b out start).pieces
      (only_taken n (given_of (rendered_by n l b out start).out (rendered_by n l b out start).answer.leg.player (told_by n l b out start).pieces))
      (only_taken n (record { lent = b; from = 0; until = b.block; out = out; pieces = 0 }))
  render_joined zero c none k x i u = block_joined (c refl) none k x i u
  render_joined (suc n) c none k x i u = joined_none l.setup f q k x l.player l.player refl i

  render_grows : (n : ℕ) → (n ≡ 0 → Accepted l b start) → (told_by n l b out start).events ≡ [] → l.player.completed ≤ (rendered_by n l b out start).answer.leg.player.completed
  render_grows zero a none =
      let c = a refl in
      let r = opening l out start in
      subst (λ (e : Ended). r.player.completed ≤ e.running.player.completed) (sym (quiet_block l.setup b start (pending l.queue) l.queue r none).ended)
      (part_grows l.setup f q b start b.block c.sizes.rate_low c.sizes.rate_high c.sizes.frames_high c.few_frames r)
  render_grows (suc n) a none = le_refl _

-- ---- calls
module _ (f : ℕ) (q : Loop) where
  call_joined : (l : Leg) (c : Call) (k x : ℕ) → (told_at l c).events ≡ [] → Follows l.setup.rate k x f q l.player
      → Budget l.setup.rate (k + length (told_at l c).pieces) (leg_after l c).player.completed
      → Joined l.setup f q k x l.player (leg_after l c).player (told_at l c).pieces (given_at l c) (parts_at l c)
  unfolding told_at leg_after given_at parts_at render
  call_joined l (submitted bytes) k x none i u = joined_none l.setup f q k x l.player (leg_after l (submitted bytes)).player (submit_kept l bytes).player i
  call_joined l (rendered b out start) k x none i u = render_joined l b out start f q (first_broken (render_order l b out start)) (accepted l b out start) none k x i u

  call_grows : (l : Leg) (c : Call) → (told_at l c).events ≡ [] → l.player.completed ≤ (leg_after l c).player.completed
  unfolding told_at leg_after render
  call_grows l (submitted bytes) none = subst (λ (p : Player). l.player.completed ≤ p.completed) (sym (submit_kept l bytes).player) (le_refl _)
  call_grows l (rendered b out start) none = render_grows l b out start f q (first_broken (render_order l b out start)) (accepted l b out start) none

  pub calls_grow : (l : Leg) (cs : List Call) → (told_all l cs).events ≡ [] → l.player.completed ≤ (leg_after_all l cs).player.completed
  unfolding told_all leg_after_all
  calls_grow l [] none = le_refl _
  calls_grow l (c ∷ cs) none =
      let h = (append-eq-nil_iff {p = (told_at l c).events} {q = (told_all (leg_after l c) cs).events}).0 none in
      le_trans (call_grows l c h.0) (calls_grow (leg_after l c) cs h.1)

  pub calls_joined : (l : Leg) (cs : List Call) (k x : ℕ) → (told_all l cs).events ≡ [] → Follows l.setup.rate k x f q l.player
      → Budget l.setup.rate (k + length (told_all l cs).pieces) (leg_after_all l cs).player.completed
      → Joined l.setup f q k x l.player (leg_after_all l cs).player (told_all l cs).pieces (given l cs) (parts l cs)
  unfolding told_all leg_after_all given parts
  calls_joined l [] k x none i u = joined_none l.setup f q k x l.player l.player refl i
  calls_joined l (c ∷ cs) k x none i u =
      let y = leg_after l c in
      let z = leg_after_all y cs in
      let xs = (told_at l c).pieces in
      let ys = (told_all y cs).pieces in
      let h = (append-eq-nil_iff {p = (told_at l c).events} {q = (told_all y cs).events}).0 none in
      let n = count_append k xs ys in
      let a =
      call_joined l c k x h.0 i
      (budget_before l.setup.rate (k + length xs) y.player.completed (k + length (xs ++ ys)) z.player.completed (omega (arith, n)) (calls_grow y cs h.1) u) in
      let e = call_setup l c in
      joined_then l.setup f q k x l.player y.player z.player xs ys (given_at l c) (given y cs) (parts_at l c) (parts y cs) a
      (subst (λ (s : Setup). Joined s f q (k + length xs) a.to y.player z.player ys (given y cs) (parts y cs)) e
      (calls_joined y cs (k + length xs) a.to h.1 (subst (λ (s : Setup). Follows s.rate (k + length xs) a.to f q y.player) (sym e) a.follows)
      (subst (λ (s : Setup). Budget s.rate (k + length xs + length ys) z.player.completed) (sym e)
      (subst (λ (m : ℕ). Budget l.setup.rate m z.player.completed) n u))))
