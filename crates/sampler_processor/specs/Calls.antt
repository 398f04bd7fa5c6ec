-- The calls: making a leg, a command, a render. Definitions only.
use Rattle.std.specs.Prelude.{ℕ, zero, suc, cond, List, eqb, ℤ, Float, Result, Ok, Err}
use Rattle.laws.specs.declared.Refused.{Refused}
use Rattle.sampler_event.specs.Command.{EventAnswer, command_answer}
use Rattle.laws.specs.Rules.{number_of, first_broken}
use Rattle.event_processor.specs.Queue.{QueueAnswer, pending, empty_queue, received}
use Rattle.sampler_player.specs.declared.Setup.{Setup}
use Rattle.sampler_player.specs.Assign.{quiet}
use Rattle.sampler_player.specs.Pieces.{Lent}
use Rattle.sampler_processor.specs.declared.Leg.{Leg}
use Rattle.sampler_processor.specs.declared.Rendered as code
use Rattle.sampler_processor.specs.Numbers.{sound, make_order, render_order}
use Rattle.sampler_processor.specs.Block.{Ended, opening, block}

-- what making and a command answer: 0 and the leg, or the number of a refusal and the leg that it leaves
pub record LegAnswer : Type 0 where
  pub number : ℕ
  pub leg : Leg

-- the same of a block, with how many pieces it was rendered in
pub record RenderAnswer : Type 0 where
  pub number : ℕ
  pub leg : Leg
  pub pieces : ℕ

abbrev pub leg_answer : ℕ → Leg → LegAnswer
leg_answer n l = record { number = n; leg = l }

-- so an answer of the code tells, in each of its cases
abbrev pub told : Result Leg (Refused Leg) → LegAnswer
told (Ok l) = leg_answer 0 l
told (Err r) = leg_answer (number_of r.refusal) r.kept

abbrev pub told_render : Result code.Rendered (Refused Leg) → RenderAnswer
told_render (Ok r) = record { number = 0; leg = r.leg; pieces = r.pieces }
told_render (Err r) = record { number = number_of r.refusal; leg = r.kept; pieces = 0 }

-- ---- making

-- "A fresh leg: both voices Stopped at 0, active none, times and counts 0, no loop points, queue empty"
abbrev pub fresh : Setup → Leg
fresh s = record { setup = s; player = quiet; queue = empty_queue }

-- "a blank leg, rate 0 and all else zero or none"
abbrev pub blank : Leg
blank = fresh (record { rate = 0; channels = 0; frames = 0; fade = 0 })

abbrev pub made_by : ℕ → Setup → LegAnswer
made_by zero s = leg_answer 0 (fresh s)
made_by (suc n) s = leg_answer (suc n) blank

unfoldable pub make : Setup → LegAnswer
make s = made_by (first_broken (make_order s)) s

-- ---- a command: "14, 13, 10, 11, 12, 9"; "A refusal returns the old leg"

abbrev pub entered_in : Leg → QueueAnswer → LegAnswer
entered_in l a = leg_answer a.number (record { setup = l.setup; player = l.player; queue = a.queue })

abbrev pub commanded : Leg → EventAnswer → LegAnswer
commanded l a = cond (eqb a.number 0) (entered_in l (received a.event l.queue)) (leg_answer a.number l)

unfoldable pub submit : Leg → List ℕ → LegAnswer
submit l bytes = cond (sound l) (commanded l (command_answer l.setup.rate l.setup.fade bytes)) (leg_answer 14 l)

-- ---- a render: number, next leg, pieces and output. "A refusal returns the old leg .., pieces 0, and writes nothing"

pub record Rendered : Type 0 where
  pub answer : RenderAnswer
  pub out : List Float

abbrev pub rendered_to : Setup → Ended → Rendered
rendered_to s e =
    record {
      answer =
          record {
            number = 0;
            leg = record { setup = s; player = e.running.player; queue = e.queue };
            pieces = e.running.pieces;
          };
      out = e.running.out;
    }

abbrev pub rendered_by : ℕ → Leg → Lent → List Float → ℤ → Rendered
rendered_by zero l b out start =
    rendered_to l.setup (block l.setup b start (pending l.queue) l.queue (opening l.player out start))
rendered_by (suc n) l b out start = record { answer = record { number = suc n; leg = l; pieces = 0 }; out = out }

unfoldable pub render : Leg → Lent → List Float → ℤ → Rendered
render l b out start = rendered_by (first_broken (render_order l b out start)) l b out start
