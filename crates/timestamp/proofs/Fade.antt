-- The fade length is the ceiling of R / 20: the least number of frames that 50 ms at rate R do not exceed.
-- The idea: the quotient of R + 19. Assumes nothing.
use Rattle.std.proofs.Common.{ℕ, ◌*◌, ◌≤◌, arith}
use Rattle.timestamp.specs.Time.{fade_length}

pub fade_reaches : (R : ℕ) → R ≤ 20 * fade_length R
fade_reaches R = omega arith

pub fade_least : (R n : ℕ) → R ≤ 20 * n → fade_length R ≤ n
fade_least R n h = omega arith
