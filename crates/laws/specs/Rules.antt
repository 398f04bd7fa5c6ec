-- "Numbers a call may answer", and "order": a call answers the first number of its order that is given. Definitions only.
use Rattle.std.specs.Prelude.{ℕ, Bool, ◌&&◌, cond, List, [], ◌∷◌, ℤ, Result, Ok, Err}
use Rattle.std.specs.Int.Signed.{le_z}
use Rattle.laws.specs.declared.Refusal.{Refusal}
use Rattle.laws.specs.declared.Refusal.TheVariants.{Rate, Channels, Recording, FadeTable, Block, Output, BlockStart, TooFar, QueueFull, EventTime, Position, LoopShort, Record, Damaged, NoResult}

-- z lies from lo to hi
abbrev pub within : ℤ → ℤ → ℤ → Bool
within lo hi z = le_z lo z && le_z z hi

-- a number, and whether it is given
pub record Rule : Type 0 where
  pub number : ℕ
  pub broken : Bool

-- number n, given exactly when b
abbrev pub rule : ℕ → Bool → Rule
rule n b = record { number = n; broken = b }

-- the first number whose rule is broken, and 0 where none is
abbrev pub first_broken : List Rule → ℕ
first_broken [] = 0
first_broken (r ∷ rs) = cond r.broken r.number (first_broken rs)

-- the number of each refusal
abbrev pub number_of : Refusal → ℕ
number_of Rate = 1
number_of Channels = 2
number_of Recording = 3
number_of FadeTable = 4
number_of Block = 5
number_of Output = 6
number_of BlockStart = 7
number_of TooFar = 8
number_of QueueFull = 9
number_of EventTime = 10
number_of Position = 11
number_of LoopShort = 12
number_of Record = 13
number_of Damaged = 14
number_of NoResult = 15

-- an answer's number: 0 is no refusal
abbrev pub number_in : {A : Type 0} → Result A Refusal → ℕ
number_in (Ok x) = 0
number_in (Err r) = number_of r
