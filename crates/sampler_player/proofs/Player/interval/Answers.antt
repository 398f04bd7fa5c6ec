-- `sampler_player::Player::interval` meets its contract.
-- The idea: the stops of a block come before the last one, so E up to there is all that is seen of it; the rest is the interval in whole numbers (`Gap`). Assumes nothing.
use native.Mathlib.Omega.{arith}
use mathlib.Core.Path.{◌≡◌, ◌∙◌}
use mathlib.Core.Bool.{true, false}
use lib.IntN.{◌-ℤ◌}
use lib.Signed.{lt_z}
use Rattle.timestamp.specs.Time.{time_of}
use Rattle.sampler_player.proofs.Assigned.{kept_less}
use Rattle.sampler_player.proofs.Gap.{Asked, gap_fits, asked_small, asked_before, asked_rest}
use Rattle.sampler_player.proofs.Player.interval.Goals as goal

pub next_loop_position-requires-clause-player_kept : goal.next_loop_position-requires-clause-player_kept
next_loop_position-requires-clause-player_kept c = kept_less c.args.rated.setup c.args.remaining 0 c.args.self (omega arith) (omega arith) c.requires.player_kept

pub difference-gap-requires : goal.difference-gap-requires
difference-gap-requires c =
    let a : Asked c.args.rated.setup c.args.remaining c.args.self c.next_loop_position.result.bits = record { slow = c.args.rated.slow; fast = c.args.rated.fast; few = c.requires.remaining_bound; is = c.requires.player_kept; value = c.next_loop_position.ensures.value; bound = c.next_loop_position.ensures.bound } in
    gap_fits a

pub returns-then-is_before : goal.returns-then-is_before
returns-then-is_before c =
    let a : Asked c.args.rated.setup c.args.remaining c.args.self c.next_loop_position.result.bits = record { slow = c.args.rated.slow; fast = c.args.rated.fast; few = c.requires.remaining_bound; is = c.requires.player_kept; value = c.next_loop_position.ensures.value; bound = c.next_loop_position.ensures.bound } in
    let t : lt_z (c.next_loop_position.result.bits -ℤ c.args.self.position.bits) (time_of c.args.rated.setup.rate c.args.remaining) ≡ true = cc in
    (cc) ∙ asked_before a t

pub returns-else-is_before : goal.returns-else-is_before
returns-else-is_before c =
    let a : Asked c.args.rated.setup c.args.remaining c.args.self c.next_loop_position.result.bits = record { slow = c.args.rated.slow; fast = c.args.rated.fast; few = c.requires.remaining_bound; is = c.requires.player_kept; value = c.next_loop_position.ensures.value; bound = c.next_loop_position.ensures.bound } in
    let t : lt_z (c.next_loop_position.result.bits -ℤ c.args.self.position.bits) (time_of c.args.rated.setup.rate c.args.remaining) ≡ false = cc in
    asked_rest a t

pub overflow_mul-units : goal.overflow_mul-units
overflow_mul-units c =
    let a : Asked c.args.rated.setup c.args.remaining c.args.self c.next_loop_position.result.bits = record { slow = c.args.rated.slow; fast = c.args.rated.fast; few = c.requires.remaining_bound; is = c.requires.player_kept; value = c.next_loop_position.ensures.value; bound = c.next_loop_position.ensures.bound } in
    let t : lt_z (c.next_loop_position.result.bits -ℤ c.args.self.position.bits) (time_of c.args.rated.setup.rate c.args.remaining) ≡ true = cc in
    let k = asked_small a t c.units.result (cc) in
    record { fits = omega (arith, k) }

pub overflow_mul-units-then-is_before : goal.overflow_mul-units-then-is_before
overflow_mul-units-then-is_before c =
    let a : Asked c.args.rated.setup c.args.remaining c.args.self c.next_loop_position.result.bits = record { slow = c.args.rated.slow; fast = c.args.rated.fast; few = c.requires.remaining_bound; is = c.requires.player_kept; value = c.next_loop_position.ensures.value; bound = c.next_loop_position.ensures.bound } in
    let t : lt_z (c.next_loop_position.result.bits -ℤ c.args.self.position.bits) (time_of c.args.rated.setup.rate c.args.remaining) ≡ true = cc in
    let k = asked_small a t c.units.result (cc) in
    record { fits = omega (arith, k) }

pub overflow_add-units : goal.overflow_add-units
overflow_add-units c =
    let a : Asked c.args.rated.setup c.args.remaining c.args.self c.next_loop_position.result.bits = record { slow = c.args.rated.slow; fast = c.args.rated.fast; few = c.requires.remaining_bound; is = c.requires.player_kept; value = c.next_loop_position.ensures.value; bound = c.next_loop_position.ensures.bound } in
    let t : lt_z (c.next_loop_position.result.bits -ℤ c.args.self.position.bits) (time_of c.args.rated.setup.rate c.args.remaining) ≡ true = cc in
    let k = asked_small a t c.units.result (cc) in
    record { fits = omega (arith, k) }
