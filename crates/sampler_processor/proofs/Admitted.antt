-- What a render that is not refused knows: that no rule of its order is broken.
-- The idea: the first broken number is 0 only where every rule before the end holds, since no rule has number 0. Assumes nothing.
use mathlib.Core.Path.{◌≡◌}
use mathlib.Core.Bool.{true, false, not}
use mathlib.Core.List.{List}
use borrow.Author.Tests.{not-false}
use lib.IntN.{ℤ}
use lib.ListN.{drop}
use lib.Ieee.{Float}
use Rattle.laws.specs.Rules.{first_broken}
use Rattle.sampler_player.specs.Pieces.{Lent}
use Rattle.sampler_player.specs.Sound.{far_bad}
use Rattle.sampler_processor.specs.declared.Leg.{Leg}
use Rattle.sampler_processor.specs.Numbers.{channels_bad, recording_bad, table_bad, block_bad, output_bad, start_bad, sound, render_order}
use Rattle.laws.proofs.Rules.{held}

pub record Admitted (l : Leg) (b : Lent) (out : List Float) (start : ℤ) : Type 0 where
  pub is_sound : sound l ≡ true
  pub table : table_bad l.setup b.table ≡ false
  pub recording : recording_bad l.setup b.recording ≡ false
  pub channels : channels_bad b.channels ≡ false
  pub block : block_bad b out ≡ false
  pub begins : start_bad start ≡ false
  pub near : far_bad l.player ≡ false
  pub output : output_bad out ≡ false

pub admitted : (l : Leg) (b : Lent) (out : List Float) (start : ℤ) → first_broken (render_order l b out start) ≡ 0 → Admitted l b out start
admitted l b out start z =
    let o = render_order l b out start in
    let a14 = held 13 (not (sound l)) (drop 1 o) z in
    let a4 = held 3 (table_bad l.setup b.table) (drop 2 o) a14.1 in
    let a3 = held 2 (recording_bad l.setup b.recording) (drop 3 o) a4.1 in
    let a2 = held 1 (channels_bad b.channels) (drop 4 o) a3.1 in
    let a5 = held 4 (block_bad b out) (drop 5 o) a2.1 in
    let a7 = held 6 (start_bad start) (drop 6 o) a5.1 in
    let a8 = held 7 (far_bad l.player) (drop 7 o) a7.1 in
    let a6 = held 5 (output_bad out) (drop 8 o) a8.1 in
    record {
      is_sound = not-false (sound l) a14.0;
      table = a4.0;
      recording = a3.0;
      channels = a2.0;
      block = a5.0;
      begins = a7.0;
      near = a8.0;
      output = a6.0;
    }
