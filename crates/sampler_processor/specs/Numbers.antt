-- "Numbers a call may answer": each rule of the leg, true where its number is given; "A leg is damaged unless"; and the order of each call. Definitions only.
use Rattle.std.specs.Prelude.{ℕ, ◌*◌, ◌^◌, Bool, false, ◌&&◌, ◌||◌, not, List, [], ◌∷◌, leb, ltb, eqb, ℤ, pos, length, Float}
use Rattle.std.specs.Float.{binary32}
use Rattle.std.specs.Float.Ieee.{neg, le, of_bits}
use Rattle.timestamp.specs.Answer.{in_rate}
use Rattle.laws.specs.Rules.{within, Rule, rule}
use Rattle.sampler_event.specs.Limits.{admissible}
use Rattle.event_processor.specs.declared.Queue.{Queue}
use Rattle.event_processor.specs.Queue.{pending, in_order, each}
use Rattle.sampler_player.specs.declared.Setup.{Setup}
use Rattle.sampler_player.specs.Pieces.{Lent}
use Rattle.sampler_player.specs.Sound.{far_bad, player_good}
use Rattle.sampler_processor.specs.declared.Leg.{Leg}

-- ---- the rules

-- 1: "rate out of range"
abbrev pub rate_bad : ℕ → Bool
rate_bad R = not (in_rate R)

-- 2: "a channel count not 1 or 2"
abbrev pub channels_bad : ℕ → Bool
channels_bad c = not (eqb c 1 || eqb c 2)

-- 3: "recording too long, or its length isn't channels times frames as kept"
abbrev pub recording_long : ℕ → Bool
recording_long frames = ltb 4194304 frames

abbrev pub recording_bad : Setup → List Float → Bool
recording_bad s rec = recording_long s.frames || not (eqb (length rec) (s.channels * s.frames))

-- 4: "fade table over 4,800, or not F long"
abbrev pub fade_long : ℕ → Bool
fade_long F = ltb 4800 F

abbrev pub table_bad : Setup → List Float → Bool
table_bad s table = fade_long (length table) || not (eqb (length table) s.fade)

-- 5: "block over 4,096, or output length isn't channels times block"
abbrev pub block_bad : Lent → List Float → Bool
block_bad b out = ltb 4096 b.block || not (eqb (length out) (b.channels * b.block))

-- 6: "an output entry not finite, or above 65,536 in magnitude"
abbrev pub entry_bad : Float → Bool
entry_bad x = not (le (neg (of_bits binary32 0x4780_0000)) x && le x (of_bits binary32 0x4780_0000))

unfoldable pub output_bad : List Float → Bool
output_bad [] = false
output_bad (x ∷ xs) = entry_bad x || output_bad xs

-- 7: "block start outside 0 to 2^48 units"
abbrev pub start_bad : ℤ → Bool
start_bad t = not (within (pos 0) (pos (2 ^ 48)) t)

-- ---- 14: "A leg is damaged unless"

-- "kept sizes are in range"
abbrev pub sizes_bad : Setup → Bool
sizes_bad s = rate_bad s.rate || (channels_bad s.channels || (recording_long s.frames || fade_long s.fade))

-- "queue at most 16, each event admissible, in order"
unfoldable pub queue_good : Setup → Queue → Bool
queue_good s q = leb q.count 16 && (each (admissible s.rate s.fade) (pending q) && in_order (pending q))

unfoldable pub sound : Leg → Bool
unfolding player_good queue_good
sound l = not (sizes_bad l.setup) && (player_good l.setup l.player && queue_good l.setup l.queue)

-- ---- the order

-- "Making a leg: 1, 2, 3, 4"
abbrev pub make_order : Setup → List Rule
make_order s =
    rule 1 (rate_bad s.rate) ∷ rule 2 (channels_bad s.channels) ∷ rule 3 (recording_long s.frames) ∷ rule 4 (fade_long s.fade) ∷ []

-- "Render: 14, 4, 3, 2, 5, 7, 8, 6"
abbrev pub render_order : Leg → Lent → List Float → ℤ → List Rule
render_order l b out start =
    rule 14 (not (sound l))
    ∷ rule 4 (table_bad l.setup b.table)
    ∷ rule 3 (recording_bad l.setup b.recording)
    ∷ rule 2 (channels_bad b.channels)
    ∷ rule 5 (block_bad b out)
    ∷ rule 7 (start_bad start)
    ∷ rule 8 (far_bad l.player)
    ∷ rule 6 (output_bad out)
    ∷ []
