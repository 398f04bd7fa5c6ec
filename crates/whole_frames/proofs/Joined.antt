-- A stretch of a run beside the same in whole frames (`Joined`): what it gives, and where it leaves both, so that stretches join.
-- The idea: `run` says it of any parts that may follow, so that two stretches compose. Assumes nothing.
use mathlib.Core.Path.{◌≡◌, refl, sym, ap, ◌∙◌, subst}
use Prim.Native.Nat.{ℕ, ◌+◌, ◌^◌, ◌≤◌}
use native.Mathlib.Nat.{add-zero}
use mathlib.Core.List.{List, [], ◌∷◌, ◌++◌, append_assoc, append-nil}
use lib.IntN.{ℤ}
use lib.ListN.{length}
use Rattle.sampler_player.specs.declared.Setup.{Setup}
use Rattle.sampler_player.specs.declared.Player.{Player}
use Rattle.sampler_player.specs.Pieces.{Lent}
use Rattle.sampler_processor.specs.Block.{Running, up_to}
use Rattle.whole_frames.specs.Run.{pieces_to}
use Rattle.whole_frames.specs.Whole.{Loop, Given, Part, given_of, whole_part, whole_pieces, whole_run, Budget}
use Rattle.whole_frames.proofs.Drift.{count_append}
use Rattle.whole_frames.proofs.Intervals.{as_whole}
use Rattle.whole_frames.proofs.Placed.{Placed}
use Rattle.whole_frames.proofs.Nearest.{Follows}
use Rattle.whole_frames.proofs.Parts.{timed_part, part_completed, part_same}

module _ (s : Setup) (f : ℕ) (q : Loop) where
  -- from p, after k pieces of x frames, to w, by the pieces ms: the parts ds give gs
  pub record Joined (k x : ℕ) (p w : Player) (ms : List ℕ) (gs : List Given) (ds : List Part) : Type 0 where
    pub to : ℕ
    pub follows : Follows s.rate (k + length ms) to f q w
    pub run : (rest : List Part) → gs ++ whole_run s (as_whole to f q w) rest ≡ whole_run s (as_whole x f q p) (ds ++ rest)

  pub joined_none : (k x : ℕ) (p w : Player) → w ≡ p → Follows s.rate k x f q p → Joined k x p w [] [] []
  joined_none k x p w e i =
      subst (λ (w : Player). Joined k x p w [] [] []) (sym e)
      (record { to = x; follows = subst (λ (y : ℕ). Follows s.rate y x f q p) (sym (add-zero k)) i; run = λ rest. refl })

  pub joined_then : (k x : ℕ) (p w v : Player) (ms ns : List ℕ) (gs hs : List Given) (ds es : List Part) (a : Joined k x p w ms gs ds) → Joined (k + length ms) a.to w v ns hs es
      → Joined k x p v (ms ++ ns) (gs ++ hs) (ds ++ es)
  joined_then k x p w v ms ns gs hs ds es a b =
      record {
        to = b.to;
        follows = subst (λ (y : ℕ). Follows s.rate y b.to f q v) (sym (count_append k ms ns)) b.follows;
        run = λ rest.
            append_assoc gs hs (whole_run s (as_whole b.to f q v) rest)
            ∙ ap (λ (ys : List Given). gs ++ ys) (b.run rest) ∙ a.run (es ++ rest)
            ∙ ap (λ (ys : List Part). whole_run s (as_whole x f q p) ys) (sym (append_assoc ds es rest));
      }

  -- with nothing after it
  pub joined_run : (k x : ℕ) (p w : Player) (ms : List ℕ) (gs : List Given) (ds : List Part) → Joined k x p w ms gs ds → gs ≡ whole_run s (as_whole x f q p) ds
  unfolding whole_run
  joined_run k x p w ms gs ds a = sym (append-nil gs) ∙ a.run [] ∙ ap (λ (ys : List Part). whole_run s (as_whole x f q p) ys) (append-nil ds)

  -- ---- a part: from a state up to frame u
  module _ (b : Lent) (start : ℤ) (u : ℕ) (low : 8000 ≤ s.rate) (high : s.rate ≤ 96000) (short : s.frames ≤ 4194304) (few : u ≤ 4096) where
    abbrev part : Running → Part
    part r = record { lent = b; from = r.done; until = u; out = r.out; pieces = r.pieces }

    pub part_joined : (k x : ℕ) (r : Running) (i : Follows s.rate k x f q r.player) → Placed s r.player → i.at ≤ 2 ^ 48
        → Budget s.rate (k + length (pieces_to s b start u r)) (up_to s b start u r).player.completed
        → Joined k x r.player (up_to s b start u r).player (pieces_to s b start u r)
        (given_of (up_to s b start u r).out (up_to s b start u r).player (pieces_to s b start u r) ∷ []) (part r ∷ [])
    unfolding up_to whole_run
    part_joined k x r i g h t =
        let a = part_same s (part r) f q low high short few k x r.player i g h t in
        let w = as_whole x f q r.player in
        record {
          to = a.to;
          follows = a.follows;
          run = λ rest.
              ap (λ (y : Given). y ∷ whole_run s (as_whole a.to f q (timed_part s (part r) f q low high short few r.player).player) rest) a.given
              ∙ ap (λ (y : Player). given_of (whole_part s w (part r)).out (whole_part s w (part r)).player (whole_pieces s w (part r)) ∷ whole_run s y rest) (sym a.player);
        }

    -- completed loops only grow
    pub part_grows : (r : Running) → r.player.completed ≤ (up_to s b start u r).player.completed
    unfolding up_to
    part_grows r = part_completed s (part r) f q low high short few r.player
