-- `words::hex` meets its contract.
-- The idea: each turn puts a digit behind the number, cut to 64 bits (Digits). Assumes nothing.
use Rattle.std.proofs.Common.{refl, ◌∙◌, ap, rules, ◌%◌, ◌^◌, List, ℕ}
use Rattle.std.proofs.lemmas.Iterator.{YieldsList-from_slice}
use Rattle.std.proofs.lemmas.Iterator.Consumers.{fold_from_yields_List}
use Rattle.words.specs.Digits.{hex_of}
use Rattle.words.proofs.Digits.{put_behind, all_digits}
use Rattle.words.proofs.hex.Goals as goal

pub returns : goal.returns
returns c =
    fold_from_yields_List _ put_behind 0 c.fold.result c.fold.ensures.ran (YieldsList-from_slice c.part.result.now (cc)) (λ a x b q k. search (rules))
    ∙ all_digits 0 0 c.part.result.now refl ∙ ap (λ (s : List ℕ). hex_of s % 2 ^ 64) c.part.ensures
