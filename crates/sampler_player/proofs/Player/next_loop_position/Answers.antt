-- `sampler_player::Player::next_loop_position` meets its contract.
-- The idea: without a loop E is T of the recording; with one it is the whole number, up to the last stop (`loop_ends`). Assumes nothing.
use Prim.Native.Nat.{◌+◌, ◌^◌, ◌≤◌}
use native.Mathlib.Omega.{arith}
use mathlib.Core.Path.{sym, ap, ◌∙◌, subst}
use lib.IntN.{ℤ, nat_abs, ◌-ℤ◌}
use Rattle.timestamp.specs.Time.{earlier, loop_end}
use Rattle.timestamp.specs.Answer.{fitting}
use Rattle.sampler_player.specs.Clock.{clock_at}
use Rattle.sampler_player.specs.Pieces.{end_of, nearer}
use Rattle.sampler_player.specs.inner.Stroke.{loop_length, last_stop}
use Rattle.sampler_player.proofs.Span.{span, T-size}
use Rattle.sampler_player.proofs.Ends.{loop_ends}
use Rattle.sampler_player.proofs.Player.next_loop_position.Goals as goal

pub between-requires : goal.between-requires
between-requires c =
    let i = span c.args.rated.setup c.in-Between.from c.in-Between.end c.args.self c.requires.player_kept c.in-Between.is in
    record { first_bound = i.first_size; ordered = i.length; length_nonzero = i.some_length; length_bound = i.length_size }

pub returns-in-Absent : goal.returns-in-Absent
unfolding end_of
returns-in-Absent c =
    let a = c.args in
    rw c.in-Absent.is
    (record {
      value = ap (λ (z : ℤ). earlier last_stop z) (rw c.rate.ensures at c.time_of.ensures);
      bound = subst (λ (z : ℤ). nat_abs z ≤ 2 ^ 49 + 2 ^ 42) (sym (rw c.rate.ensures at c.time_of.ensures)) (T-size a.rated.setup.rate a.rated.setup.frames (omega arith) (omega arith) (omega arith));
    })

pub returns-in-Between-clause-value : goal.returns-in-Between-clause-value
unfolding end_of
returns-in-Between-clause-value c =
    let a = c.args in
    let i = span a.rated.setup c.in-Between.from c.in-Between.end a.self c.requires.player_kept c.in-Between.is in
    let first = c.in-Between.end.bits -ℤ a.self.start.bits in
    let n = a.self.completed in
    rw c.in-Between.is
    (c.end.ensures.value
    ∙ rw (c.between.ensures.first, c.between.ensures.length)
    (loop_ends a.rated.setup.rate a.rated.setup (omega arith) (omega arith) first (loop_length c.in-Between.from c.in-Between.end) n i.first_size i.length_size i.numbers.tests.few)
    ∙ ap (λ (z : ℤ). nearer (clock_at a.rated.setup.rate) a.rated.setup last_stop (fitting (loop_end a.rated.setup.rate first z n))) (sym i.length))
