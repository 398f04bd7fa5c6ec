-- What a step makes of a trial's leg: what the leg's own call hands back, or the leg that a file has; a step that is malformed leaves it. Definitions only.
use Rattle.std.specs.Prelude.{◌≡◌, ℕ, ◌≤◌, true, List, ℤ, Float, Result, IsOk, IsErr}
use Rattle.sampler_player.specs.Pieces.{Lent}
use Rattle.sampler_processor.specs.declared.Leg.{Leg}
use Rattle.sampler_processor.specs.Calls.{submit, render}
use Rattle.buffered.specs.declared.input.Input.{Input}
use Rattle.buffered.specs.Input.{held, number_at}
use Rattle.leg_bytes.specs.Read.{read_leg}
use Rattle.trial_steps.specs.declared.steps.Malformed.{Malformed}

-- the leg after step 1, 2, 3 or 4, from a leg l: told, rendered once, replaced, rendered some times
pub data Follows (l : Leg) : ℕ → Leg → Type 0 where
  told : (bytes : List ℕ) → Follows l 1 (submit l bytes).leg
  rendered : (b : Lent) (out : List Float) (start : ℤ) → Follows l 2 (render l b out start).answer.leg
  placed : (bytes : List ℕ) → (read_leg bytes).good ≡ true → Follows l 3 (read_leg bytes).leg
  none : Follows l 4 l
  once_more : {m : Leg} (b : Lent) (out : List Float) (start : ℤ) → Follows l 4 m → Follows l 4 (render m b out start).answer.leg

-- step `kind` from a to r, and its answer: malformed, and the leg is as it was, or taken
pub record Stepped (kind : ℕ) (a : Leg) (e : Result (Unit {0}) Malformed) (r : Leg) : Type 0 where
  pub ends : IsErr e → r ≡ a
  pub goes : IsOk e → Follows a kind r

-- the next step from a to r, of a buffer s of which i is held: which one it is is what its byte says, where that is held already (no contract says what is read)
pub record Next (s : List ℕ) (i : Input) (a r : Leg) : Type 0 where
  pub kind : ℕ
  pub follows : Follows a kind r
  pub byte : 1 ≤ held i → kind ≡ number_at s i 0 1

-- the same, with its answer
pub record Taken (s : List ℕ) (i : Input) (a : Leg) (e : Result (Unit {0}) Malformed) (r : Leg) : Type 0 where
  pub kind : ℕ
  pub stepped : Stepped kind a e r
  pub byte : 1 ≤ held i → IsOk e → kind ≡ number_at s i 0 1
