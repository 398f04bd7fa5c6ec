-- `sampler_player::Player::process_voices` meets its contract.
-- The idea: what is lent has room by `Ready`, and the position moves by T of the piece. Assumes nothing.
use Prim.Native.Nat.{◌≤◌}
use native.Mathlib.Nat.{le_of_eq}
use native.Mathlib.Omega.{arith}
use mathlib.Core.Path.{◌≡◌, ap, sym, ◌∙◌}
use lib.IntN.{ℤ, nat_abs, ◌+ℤ◌}
use Rattle.timestamp.specs.Time.{time_of}
use Rattle.sampler_voice.specs.Voices.{Mixed, mix}
use Rattle.timestamp.specs.declared.Timestamp.{Timestamp}
use Rattle.sampler_player.specs.Pieces.{Segment, rendered}
use Rattle.sampler_player.specs.inner.Lending.{ending}
use Rattle.std.proofs.lemmas.Int.{ints}
use Rattle.sampler_player.proofs.Kept.{opened, stands}
use Rattle.sampler_player.proofs.Sized.{stands_size}
use Rattle.sampler_player.proofs.Span.{T-size}
use Rattle.sampler_player.proofs.Voices.{voices_near}
use Rattle.sampler_player.proofs.Player.process_voices.Goals as goal

pub render-heard-requires : goal.render-heard-requires
render-heard-requires c =
    let a = c.args in
    let r = c.requires.ready in
    record {
      output_room = (r.one_out, le_of_eq (sym r.out));
      within_output = c.requires.within_block;
      ahead = voices_near a.setup.fade a.n a.n a.self.voices (omega (arith, r.block)) (opened a.setup a.n a.self c.requires.player_kept).voices;
    }

pub sum-requires : goal.sum-requires
sum-requires c =
    let a = c.args in
    let r = c.requires.ready in
    let few : a.n ≤ 4096 = omega (arith, r.block) in
    let i = stands a.n a.self.position.bits few (opened a.setup a.n a.self c.requires.player_kept).position in
    let t = T-size a.setup.rate a.n r.slow r.fast (omega (arith, few)) in
    let e = ap nat_abs (rw c.rate.ensures at c.time_of.ensures) in
    let p = stands_size a.n a.self.position.bits i in
    omega (arith, ints, t, e, p)

pub returns : goal.returns
unfolding rendered
returns c =
    let a = c.args in
    let e : c.sum.result.bits ≡ a.self.position.bits +ℤ time_of a.setup.rate a.n =
    c.sum.ensures ∙ ap (λ (z : ℤ). a.self.position.bits +ℤ z) (rw c.rate.ensures at c.time_of.ensures) in
    let left : Timestamp → Mixed → Segment =
    λ t h. ending (record { voices = h.voices; active = a.self.active; points = a.self.points; position = t; start = a.self.start; completed = a.self.completed }) h.out 1 in
    ap (left c.sum.result) c.render-heard.ensures
    ∙ ap (λ (z : ℤ). left (record { bits = z }) (mix a.lent.recording.now a.setup.frames a.lent.table.now a.lent.block (record { recording = a.setup.channels; output = a.lent.channels }) a.at a.n a.self.voices a.out.now)) e
