-- `sampler_processor::block::Block::run` meets its contract.
-- The idea: the loop carries a `Loop`; an event that is due is one step of the definition, and none due is its end. Assumes nothing.
use mathlib.Core.Path.{◌≡◌, sym, ap, ◌∙◌, subst}
use Prim.Native.Nat.{◌<◌}
use native.Mathlib.Nat.{le_refl}
use lib.IntN.{ℤ}
use borrow.Author.Rules.{rules}
use Rattle.sampler_event.specs.declared.Event.{Event}
use Rattle.event_processor.specs.declared.Queue.{Queue}
use Rattle.event_processor.specs.declared.Taken as Tk
use Rattle.std.specs.Prelude.{None, Some}
use Rattle.event_processor.specs.Queue.{pending, first_before, taken_before, without}
use Rattle.event_processor.proofs.Front.{taken_due, due_less}
use Rattle.sampler_processor.proofs.Loops.{loop_first, loop_due, loop_next, loop_last, loop_end_lem}
use Rattle.sampler_processor.proofs.block.Block.run.Goals as goal

-- what the queue answers of its first event, and the queue after it
first : (end : ℤ) (q : Queue) (t : Tk.Taken) → t ≡ taken_before end q → t.first ≡ first_before end (pending q)
unfolding taken_before
first end q t h = ap (λ (x : Tk.Taken). x.first) h

due : (end : ℤ) (q : Queue) (t : Tk.Taken) (e : Event) → t ≡ taken_before end q → t.first ≡ Some e → first_before end (pending q) ≡ Some e
due end q t e h k = sym (first end q t h) ∙ k

left : (end : ℤ) (q : Queue) (t : Tk.Taken) (e : Event) → t ≡ taken_before end q → t.first ≡ Some e → t.queue ≡ without q
left end q t e h k = ap (λ (x : Tk.Taken). x.queue) (h ∙ taken_due _ _ _ (due end q t e h k))

pub loop-event-init : goal.loop-event-init
loop-event-init c = loop_first _ _ _ _ _ _ _ c.args.self.lends c.requires.some_frames c.args.self.soon c.frames_later-end.ensures c.requires.player_kept c.requires.queue_sound (search rules)

pub past_event-at-requires-clause-reaches : goal.past_event-at-requires-clause-reaches
past_event-at-requires-clause-reaches c =
    let t = c.next_event_before in
    let k : t.result.first ≡ Some c.in-Some.event = search rules in
    loop_due _ _ _ _ _ _ _ _ c.loop-event.invariant _ (due c.frames_later-end.result.bits c.loop-event.waiting t.result c.in-Some.event t.ensures k)

pub loop-event-smaller : goal.loop-event-smaller
loop-event-smaller c =
    let t = c.next_event_before in
    let k : t.result.first ≡ Some c.in-Some.event = search rules in
    let q = c.loop-event.waiting in
    subst (λ (r : Queue). r.count < q.count) (sym (left c.frames_later-end.result.bits q t.result c.in-Some.event t.ensures k))
    (due_less _ _ _ (due c.frames_later-end.result.bits q t.result c.in-Some.event t.ensures k))

pub loop-event-preserved : goal.loop-event-preserved
loop-event-preserved c =
    let t = c.next_event_before in
    let k : t.result.first ≡ Some c.in-Some.event = search rules in
    let q = c.loop-event.waiting in
    loop_next _ _ _ _ _ _ _ _ c.loop-event.invariant _ (due c.frames_later-end.result.bits q t.result c.in-Some.event t.ensures k) _ _ _ (left c.frames_later-end.result.bits q t.result c.in-Some.event t.ensures k) c.past_event-at.ensures

-- ---- the block's end

pub up_to-last-requires : goal.up_to-last-requires
up_to-last-requires c =
    let u = loop_last _ _ _ _ _ _ _ _ c.loop-event.invariant in
    record {
      fits = c.loop-event.auto.out ∙ c.requires.fits;
      not_past = u.0;
      within_block = le_refl _;
      player_kept = u.1;
      now_within = u.2;
      pieces_bound = u.3;
    }

pub returns : goal.returns
returns c =
    let t = c.next_event_before in
    let k : t.result.first ≡ None = search rules in
    loop_end_lem _ _ _ _ _ _ _ _ c.loop-event.invariant (sym (first c.frames_later-end.result.bits c.loop-event.waiting t.result t.ensures) ∙ k) _ _ c.up_to-last.ensures
