-- Stop and Assign keep `kept`, at any time that a leg can come to; and fewer frames to come ask for less.
-- The idea: round S of a time below 2^53 units is at most 2^39 frames. Assumes nothing.
use Prim.Native.Nat.{ℕ, suc, zero-le, ◌+◌, ◌*◌, ◌/◌, ◌^◌, ◌≤◌, ◌<◌}
use native.Mathlib.Nat.{le_of_suc-le-suc, div-lt_iff_lt-mul}
use native.Mathlib.Omega.{arith}
use mathlib.Core.Path.{◌≡◌, sym, subst}
use mathlib.Core.Bool.{Bool, true, false, cond}
use mathlib.Core.List.{map}
use lib.IntN.{ℤ, pos, negsuc}
use lib.Pow.{pow_pos}
use Rattle.laws.proofs.Minus.{Minus}
use Rattle.timestamp.specs.Time.{frames_of, frame_near}
use Rattle.timestamp.proofs.Values.{round_of_at, round_of_neg}
use Rattle.timestamp.proofs.Frames.{L, frames_n, frames_n_le, S-value, S-value-neg}
use Rattle.sampler_voice.specs.Voices.{ended_voice}
use Rattle.sampler_player.specs.declared.Setup.{Setup}
use Rattle.sampler_player.specs.declared.Player.{Player}
use Rattle.sampler_player.specs.Clock.{clock_at}
use Rattle.sampler_player.specs.Assign.{stop, first_stopped, begin, active_at, assign_at, assign}
use Rattle.sampler_player.specs.inner.Kept.{kept}
use Rattle.sampler_player.proofs.Kept.{opened, closed, stands, stands_within}
use Rattle.sampler_player.proofs.Held.{stopped_none, begins}
use Rattle.sampler_player.proofs.Voices.{voices_less, stopped_voices, started_voices}

-- ---- round S
half_up : (g l : ℕ) → 0 < l → g ≤ 2 ^ 39 * l → (2 * g + l) / (2 * l) ≤ 2 ^ 39
half_up g l p h = le_of_suc-le-suc ((div-lt_iff_lt-mul {k = 2 * l} {x = 2 * g + l} {y = 2 ^ 39 + 1} (omega arith)).1 (omega arith))

pub near_small : (R : ℕ) (z : ℤ) (a b : ℕ) → R < 2 ^ 18 → Minus z a b → a < 2 ^ 53 → b < 2 ^ 53 → frame_near R z ≤ 2 ^ 39
near_small R (pos t) a b r m h k =
    subst (λ (n : ℕ). n ≤ 2 ^ 39) (sym (round_of_at (frames_of R (pos t)) (frames_n R t) L (pow_pos 1074) (S-value R t (omega arith) (omega arith))))
    (half_up (frames_n R t) L (pow_pos 1074) (frames_n_le R t r (omega arith)))
near_small R (negsuc t) a b r m h k =
    subst (λ (n : ℕ). n ≤ 2 ^ 39) (sym (round_of_neg (frames_of R (negsuc t)) (frames_n R (suc t)) L (S-value-neg R t (omega arith) (omega arith)))) zero-le

-- ---- fewer frames
pub kept_less : (s : Setup) (x y : ℕ) (p : Player) → y ≤ x → x ≤ 4096 → kept s x p ≡ true → kept s y p ≡ true
kept_less s x y p l m k =
    let o = opened s x p k in
    let h = stands x p.position.bits m o.position in
    closed s y p
    (record {
      active = o.active;
      voices = voices_less s.fade x y p.voices l o.voices;
      position = stands_within y p.position.bits (record { high = omega arith; low = h.low });
      loops = o.loops;
    })

-- ---- Stop and Assign
module _ (s : Setup) (x : ℕ) where
  pub stop_kept : (p : Player) → kept s x p ≡ true → kept s x (stop p) ≡ true
  unfolding stop
  stop_kept p k =
      let o = opened s x p k in
      closed s x (stop p) (record { active = stopped_none p.voices; voices = stopped_voices s.fade x p.voices o.voices; position = o.position; loops = o.loops })

  begin_kept : (u : ℕ) (p : Player) → x ≤ 4096 → u ≤ 2 ^ 39 → kept s x p ≡ true → kept s x (begin u (stop p)) ≡ true
  unfolding begin stop
  begin_kept u p l m k =
      let o = opened s x p k in
      closed s x (begin u (stop p))
      (record {
        active = begins u (map ended_voice p.voices) (stopped_none p.voices);
        voices = started_voices s.fade x u (map ended_voice p.voices) (first_stopped (map ended_voice p.voices)) l m (stopped_voices s.fade x p.voices o.voices);
        position = o.position;
        loops = o.loops;
      })

  chosen : (t : Bool) (u : ℕ) (p : Player) → x ≤ 4096 → u ≤ 2 ^ 39 → kept s x p ≡ true → kept s x (cond t p (begin u (stop p))) ≡ true
  chosen true u p l m k = k
  chosen false u p l m k = begin_kept u p l m k

  pub assign_at_kept : (u : ℕ) (p : Player) → x ≤ 4096 → u ≤ 2 ^ 39 → kept s x p ≡ true → kept s x (assign_at u p) ≡ true
  unfolding assign_at
  assign_at_kept u p l m k = chosen (active_at p.active u p.voices) u p l m k

  pub assign_kept : (z : ℤ) (a b : ℕ) (p : Player) → s.rate ≤ 96000 → x ≤ 4096 → Minus z a b → a < 2 ^ 53 → b < 2 ^ 53 → kept s x p ≡ true
      → kept s x (assign (clock_at s.rate) z p) ≡ true
  assign_kept z a b p hi l m h i k = assign_at_kept (frame_near s.rate z) p l (near_small s.rate z a b (omega arith) m h i) k
