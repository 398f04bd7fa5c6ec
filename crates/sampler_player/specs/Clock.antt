-- What Assign, pieces and voices ask of a time: a rate's answers are T, round S and E, and "Whole-frame arithmetic" has its own. Definitions only.
use Rattle.std.specs.Prelude.{ℕ, ℤ, pos, negsuc, ◌+ℤ◌, ◌-ℤ◌, ◌*ℤ◌}
use Rattle.std.proofs.Math.Option.{Option, some}
use Rattle.timestamp.specs.Time.{time_of, frame_near, loop_end}
use Rattle.timestamp.specs.Answer.{fitting}

-- T of whole frames, round S, and E with a loop from its start and end, the start position and the completed loops; none is "later than any block"
pub record Clock : Type 0 where
  pub time : ℕ → ℤ
  pub near : ℤ → ℕ
  pub ending : ℤ → ℤ → ℤ → ℕ → Option ℤ

-- "If E doesn't fit in 64 signed bits it counts as later than any block"
abbrev pub clock_at : ℕ → Clock
clock_at R =
    record {
      time = time_of R;
      near = λ t. frame_near R t;
      ending = λ from end start completed. fitting (loop_end R (end -ℤ start) (end -ℤ from) completed);
    }

-- "every time a whole number of frames and nothing rounded"
abbrev pub not_negative : ℤ → ℕ
not_negative (pos n) = n
not_negative (negsuc n) = 0

abbrev pub whole_frames : Clock
whole_frames =
    record {
      time = λ n. pos n;
      near = λ z. not_negative z;
      ending = λ from end start completed. some ((end -ℤ start) +ℤ (end -ℤ from) *ℤ pos completed);
    }
