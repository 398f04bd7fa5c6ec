-- From number 14 to `kept` and back: what plays and passes 14 and 8 is kept through any block, and what is kept at a block's end passes 14.
-- The idea: 8 gives each bound the room that a block of 4,096 frames takes. Assumes nothing.
use Prim.Native.Nat.{ℕ, ◌+◌, ◌-◌, ◌*◌, ◌^◌, ◌≤◌}
use native.Mathlib.Omega.{arith}
use mathlib.Core.Path.{◌≡◌, refl}
use mathlib.Core.Bool.{Bool, true, false, ◌&&◌, ◌||◌, not}
use mathlib.Core.List.{List, [], ◌∷◌}
use borrow.Author.Tests.{leb-true, le-leb, ltb-false}
use lib.Dec.{leb, ltb}
use lib.IntN.{ℤ, pos, negsuc, neg_ℤ}
use lib.Signed.{lt_z}
use Rattle.sampler_voice.specs.declared.Voice.{Voice}
use Rattle.sampler_voice.specs.Voices.{is_stopped, fade_good}
use Rattle.laws.specs.Rules.{within}
use Rattle.sampler_player.specs.declared.Setup.{Setup}
use Rattle.sampler_player.specs.declared.Player.{Player}
use Rattle.sampler_player.specs.Assign.{quiet}
use Rattle.sampler_player.specs.Sound.{any_far, far_bad, active_good, voices_good, loop_good, player_good}
use Rattle.sampler_player.specs.inner.Kept.{voices_kept, kept}
use Rattle.sampler_player.proofs.Kept.{opened, closed, stands_within}
use Rattle.laws.proofs.Tests.{both, one_of, other_of, neither}

-- ---- the tests of `player_good`
pub record Good (s : Setup) (p : Player) : Type 0 where
  pub active : active_good p.active p.voices ≡ true
  pub voices : voices_good s.fade p.voices ≡ true
  pub position : within (neg_ℤ (pos (2 ^ 20))) (pos (2 ^ 49)) p.position.bits ≡ true
  pub loops : loop_good s p ≡ true

pub good_opened : (s : Setup) (p : Player) → player_good s p ≡ true → Good s p
unfolding player_good
good_opened s p h =
    let a = active_good p.active p.voices in
    let v = voices_good s.fade p.voices in
    let z = within (neg_ℤ (pos (2 ^ 20))) (pos (2 ^ 49)) p.position.bits in
    let l = loop_good s p in
    let f : (a && v) ≡ true = one_of (a && v) (z && l) h in
    let g : (z && l) ≡ true = other_of (a && v) (z && l) h in
    record { active = one_of a v f; voices = other_of a v f; position = one_of z l g; loops = other_of z l g }

pub good_closed : (s : Setup) (p : Player) → Good s p → player_good s p ≡ true
unfolding player_good
good_closed s p k = both (both k.active k.voices) (both k.position k.loops)

-- ---- voices
near_fits : (t : Bool) (p x : ℕ) → x ≤ 4096 → (not t && ltb (2 ^ 39) p) ≡ false → (t || leb (p + x) (2 ^ 39 + 4096)) ≡ true
near_fits true p x l h = refl
near_fits false p x l h = let k = ltb-false (2 ^ 39) p h in le-leb (p + x) (2 ^ 39 + 4096) (omega (arith, k))

voices_in : (F x : ℕ) (vs : List Voice) → x ≤ 4096 → voices_good F vs ≡ true → any_far vs ≡ false → voices_kept F x vs ≡ true
voices_in F x [] l h g = refl
voices_in F x (v ∷ vs) l h g =
    let a = fade_good F v.phase in
    let b = leb v.position (2 ^ 40) in
    let f : (a && b) ≡ true = one_of (a && b) (voices_good F vs) h in
    let c = not (is_stopped v.phase) && ltb (2 ^ 39) v.position in
    both (both (one_of a b f) (both (other_of a b f) (near_fits (is_stopped v.phase) v.position x l (neither c (any_far vs) g).0)))
    (voices_in F x vs l (other_of (a && b) (voices_good F vs) h) (neither c (any_far vs) g).1)

voices_out : (F x : ℕ) (vs : List Voice) → voices_kept F x vs ≡ true → voices_good F vs ≡ true
voices_out F x [] h = refl
voices_out F x (v ∷ vs) h =
    let a = fade_good F v.phase in
    let b = leb v.position (2 ^ 40) in
    let c = is_stopped v.phase || leb (v.position + x) (2 ^ 39 + 4096) in
    let f : (a && (b && c)) ≡ true = one_of (a && (b && c)) (voices_kept F x vs) h in
    both (both (one_of a (b && c) f) (one_of b c (other_of a (b && c) f))) (voices_out F x vs (other_of (a && (b && c)) (voices_kept F x vs) h))

-- ---- the position
position_in : (x : ℕ) (z : ℤ) → x ≤ 4096 → within (neg_ℤ (pos (2 ^ 20))) (pos (2 ^ 49)) z ≡ true → lt_z (pos (2 ^ 48)) z ≡ false
    → within (neg_ℤ (pos (2 ^ 20))) (pos (2 ^ 48 + 2 ^ 34 - x * 2 ^ 20)) z ≡ true
position_in x (pos n) l h g = let k = ltb-false (2 ^ 48) n g in stands_within x (pos n) (record { high = omega (arith, k); low = omega arith })
position_in x (negsuc n) l h g = h

position_out : (z : ℤ) → within (neg_ℤ (pos (2 ^ 20))) (pos (2 ^ 48 + 2 ^ 34 - 0 * 2 ^ 20)) z ≡ true → within (neg_ℤ (pos (2 ^ 20))) (pos (2 ^ 49)) z ≡ true
position_out (pos n) h = let k = leb-true n (2 ^ 48 + 2 ^ 34) h in le-leb n (2 ^ 49) (omega (arith, k))
position_out (negsuc n) h = h

-- ---- both ways
pub good_kept : (s : Setup) (x : ℕ) (p : Player) → x ≤ 4096 → player_good s p ≡ true → far_bad p ≡ false → kept s x p ≡ true
good_kept s x p l h g =
    let o = good_opened s p h in
    let c = lt_z (pos (2 ^ 48)) p.position.bits in
    closed s x p
    (record {
      active = o.active;
      voices = voices_in s.fade x p.voices l o.voices (neither c (any_far p.voices) g).1;
      position = position_in x p.position.bits l o.position (neither c (any_far p.voices) g).0;
      loops = o.loops;
    })

pub kept_good : (s : Setup) (p : Player) → kept s 0 p ≡ true → player_good s p ≡ true
kept_good s p k =
    let o = opened s 0 p k in
    good_closed s p (record { active = o.active; voices = voices_out s.fade 0 p.voices o.voices; position = position_out p.position.bits o.position; loops = o.loops })

-- ---- a quiet player, as a leg is made with
pub quiet_good : (s : Setup) → player_good s quiet ≡ true
unfolding player_good
quiet_good s = refl
