-- No entry of the output becomes a NaN in a segment.
-- The idea: only a piece writes, and a mix keeps numbers numbers. Assumes nothing.
use Prim.Native.Nat.{ℕ, zero, suc, ◌+◌, ◌^◌}
use mathlib.Core.Option.{Option, none, some}
use Rattle.sampler_voice.proofs.NoNan.{Numbers, mix_numbers}
use Rattle.sampler_player.specs.declared.Setup.{Setup}
use Rattle.sampler_player.specs.declared.Points.{Points}
use Rattle.sampler_player.specs.declared.Points.TheVariants.{Absent, Between}
use Rattle.sampler_player.specs.Clock.{Clock}
use Rattle.sampler_player.specs.Pieces.{Lent, sides, Going, after, interval, rendered, caught_up, pass_of, pass, passes, segment}

abbrev Whole : Option Going → Type 0
Whole none = Unit {0}
Whole (some g) = Numbers g.out

module _ (k : Clock) (s : Setup) (b : Lent) where
  rendered_numbers : (n : ℕ) (g : Going) → Numbers g.out → Numbers (rendered k s b n g).out
  unfolding rendered
  rendered_numbers n g h = mix_numbers b.recording s.frames b.table b.block (sides s b) g.at n g.player.voices g.out h

  caught_up_numbers : (x : Points) (g : Going) → Numbers g.out → Whole (caught_up k s b x g)
  unfolding caught_up
  caught_up_numbers Absent g h = tt
  caught_up_numbers (Between from end) g h = h

  pass_of_numbers : (n : ℕ) (g : Going) → Numbers g.out → Whole (pass_of k s b n g)
  unfolding pass_of
  pass_of_numbers zero g h = caught_up_numbers g.player.points g h
  pass_of_numbers (suc n) g h = rendered_numbers (suc n) g h

  pass_numbers : (r : ℕ) (g : Going) → Numbers g.out → Whole (pass k s b r g)
  unfolding pass
  pass_numbers zero g h = tt
  pass_numbers (suc r) g h = pass_of_numbers (interval k s g.player (suc r)) g h

  after_numbers : (go : Going → Going) (g : Going) (o : Option Going) → ((h : Going) → Numbers h.out → Numbers (go h).out) → Numbers g.out → Whole o
      → Numbers (after go g o).out
  after_numbers go g none f h w = h
  after_numbers go g (some x) f h w = f x w

  passes_numbers : (fuel : ℕ) (g : Going) → Numbers g.out → Numbers (passes k s b fuel g).out
  unfolding passes
  passes_numbers zero g h = h
  passes_numbers (suc fuel) g h =
      after_numbers (λ x. passes k s b fuel x) g (pass k s b g.remaining g) (passes_numbers fuel) h (pass_numbers g.remaining g h)

  pub segment_numbers : (g : Going) → Numbers g.out → Numbers (segment k s b g).out
  unfolding segment
  segment_numbers g h = passes_numbers (g.remaining + (2 ^ 27 + 1)) g h
