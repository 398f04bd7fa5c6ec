-- `sampler_voice::Voices::render` meets its contract.
-- The idea: a list of two voices is its two elements, and `mix` is one `frames` after the other; Stopped voices stay. Assumes nothing.
use mathlib.Core.Path.{◌≡◌, sym, ◌∙◌, ap}
use mathlib.Core.List.{List, [], ◌∷◌}
use lib.ListN.{length, get_or}
use Rattle.sampler_voice.specs.declared.Voice.{Voice}
use Rattle.sampler_voice.specs.Voices.{Heard, lent, lent_all, silent, frames, mix}
use Rattle.sampler_voice.proofs.Two.{pair}
use Rattle.sampler_voice.proofs.Ways.{both_stay}
use borrow.Author.Rules.{rules}
use Rattle.sampler_voice.proofs.Voices.render.Goals as goal

pub returns-then-is_stopped-2 : goal.returns-then-is_stopped-2
returns-then-is_stopped-2 c =
    let a = c.args in
    let s = a.source in
    let vs = a.self.voices in
    let are_two : length vs ≡ 2 = search rules in
    ap (λ (us : List Voice). lent_all us a.out.now) (pair vs silent are_two)
    ∙ both_stay s.recording.now s.frames s.fade.now a.n s.channels (get_or vs 0 silent) (get_or vs 1 silent) a.j a.k a.out.now (sym c.is_stopped.ensures ∙ c.if-is_stopped.true) (sym c.is_stopped-then-is_stopped.ensures ∙ c.if-is_stopped-2.true)
    ∙ ap (λ (us : List Voice). mix s.recording.now s.frames s.fade.now a.n s.channels a.j a.k us a.out.now) (sym (pair vs silent are_two))

pub returns : goal.returns
unfolding mix
returns c =
    let a = c.args in
    let s = a.source in
    let one = c.render-a in
    let other = c.render-b in
    let vs = a.self.voices in
    let w = get_or vs 1 silent in
    let are_two : length vs ≡ 2 = search rules in
    let e : lent one.result one.new.out ≡ frames s.recording.now s.frames s.fade.now a.n s.channels a.j a.k (lent (get_or vs 0 silent) a.out.now) = one.ensures in
    ap (λ (h : Heard). lent_all (one.result ∷ h.voice ∷ []) h.out) other.ensures
    ∙ ap (λ (f : Heard). lent_all (f.voice ∷ (mix s.recording.now s.frames s.fade.now a.n s.channels a.j a.k (w ∷ []) f.out).voices) (mix s.recording.now s.frames s.fade.now a.n s.channels a.j a.k (w ∷ []) f.out).out) e
    ∙ ap (λ (us : List Voice). mix s.recording.now s.frames s.fade.now a.n s.channels a.j a.k us a.out.now) (sym (pair vs silent are_two))
