-- `sampler_player::Player::catch_up` meets its contract.
-- The idea: fewer loops than the code counts are exactly those that do not reach `due` (`behind`, `reached`). Assumes nothing.
use Prim.Native.Nat.{ℕ, ◌≤◌, ◌<◌}
use mathlib.Core.Path.{◌≡◌, refl, sym, ap, ◌∙◌, subst}
use mathlib.Core.Bool.{Bool, cond}
use lib.IntN.{nat_abs}
use Rattle.sampler_player.specs.declared.Points.{Points}
use Rattle.sampler_player.specs.Clock.{not_negative}
use Rattle.sampler_player.specs.inner.Stroke.{loop_length, due, reaching, looped, stroke_at, stroke_of}
use Rattle.sampler_player.proofs.Span.{span}
use Rattle.sampler_player.proofs.Reaching.{behind, behind_size, reached}
use Rattle.sampler_player.proofs.Player.catch_up.Goals as goal

pub between-requires : goal.between-requires
between-requires c =
    let i = span c.args.rated.setup c.in-Between.from c.in-Between.end c.args.self c.requires.player_kept c.in-Between.is in
    record { first_bound = i.first_size; ordered = i.length; length_nonzero = i.some_length; length_bound = i.length_size }

pub due-due-requires : goal.due-due-requires
due-due-requires c = (span c.args.rated.setup c.in-Between.from c.in-Between.end c.args.self c.requires.player_kept c.in-Between.is).position_size

pub returns-in-Absent : goal.returns-in-Absent
unfolding stroke_of
returns-in-Absent c = rw c.in-Absent.is refl

pub returns-then-self-due : goal.returns-then-self-due
unfolding stroke_of
returns-then-self-due c =
    let a = c.args in
    let i = span a.rated.setup c.in-Between.from c.in-Between.end a.self c.requires.player_kept c.in-Between.is in
    let L = loop_length c.in-Between.from c.in-Between.end in
    let d = due a.rated.setup.rate c.in-Between.end a.self in
    let e : c.due-due.result ≡ reaching L (not_negative d) = cc in
    let few : a.self.completed < reaching L (not_negative d) = subst (λ (n : ℕ). a.self.completed < n) e c.if-self-due.true in
    let R = a.rated.setup.rate in
    (rw c.rate-rate.ensures at c.loop_back.ensures) ∙ ap (λ (n : ℕ). looped R c.in-Between.from n a.self) (e ∙ ap (reaching L) (behind_size L a.self.completed i.some_length d few))
    ∙ sym
    (ap (λ (q : Points). stroke_at R q a.self) c.in-Between.is
    ∙ ap (λ (t : Bool). cond t (looped R c.in-Between.from (reaching L (nat_abs d)) a.self) a.self) (behind L a.self.completed i.some_length d few))

pub returns-else-self-due : goal.returns-else-self-due
unfolding stroke_of
returns-else-self-due c =
    let a = c.args in
    let i = span a.rated.setup c.in-Between.from c.in-Between.end a.self c.requires.player_kept c.in-Between.is in
    let L = loop_length c.in-Between.from c.in-Between.end in
    let d = due a.rated.setup.rate c.in-Between.end a.self in
    let e : c.due-due.result ≡ reaching L (not_negative d) = cc in
    let all : reaching L (not_negative d) ≤ a.self.completed = subst (λ (n : ℕ). n ≤ a.self.completed) e c.if-self-due.false in
    rw c.in-Between.is (rw (reached L a.self.completed i.some_length d all) refl)
