-- The voices' limits, `voices_kept`, through Stop, the start of a voice and frames, of any number of voices; and no position is near the end of 64 bits.
-- The idea: voice by voice (Voice). Assumes nothing.
use Prim.Native.Nat.{ℕ, zero, suc, ◌+◌, ◌^◌, ◌≤◌}
use native.Mathlib.Omega.{arith}
use mathlib.Core.Path.{◌≡◌, refl}
use mathlib.Core.Bool.{true, ◌&&◌, ◌||◌}
use mathlib.Core.List.{List, [], ◌∷◌, map}
use lib.Dec.{leb}
use lib.ListN.{length, get_or, set}
use lib.Ieee.{Float}
use Rattle.sampler_voice.specs.declared.Channels.{Channels}
use Rattle.sampler_voice.specs.declared.Voice.{Voice}
use Rattle.sampler_voice.specs.Voices.{silent, is_stopped, fade_good, started_at, ended_voice, lent, frames, mix}
use Rattle.sampler_voice.specs.inner.Room.{Ahead}
use Rattle.std.specs.Prelude.{Option, Some, None}
use Rattle.sampler_player.specs.Assign.{start_in}
use Rattle.sampler_player.specs.inner.Kept.{voices_kept}
use Rattle.laws.proofs.Tests.{both, one_of, other_of}
use Rattle.sampler_player.proofs.Voice.{Voiced, voice_opened, voice_closed, fits_less, ended_voiced, started_voiced, frames_voiced}

-- ---- the first, and the others
parts : (F x : ℕ) (v : Voice) (vs : List Voice) → voices_kept F x (v ∷ vs) ≡ true → Voiced F x v.phase v.position × (voices_kept F x vs ≡ true)
parts F x v vs h =
    let a = fade_good F v.phase && (leb v.position (2 ^ 40) && (is_stopped v.phase || leb (v.position + x) (2 ^ 39 + 4096))) in
    (voice_opened F x v.phase v.position (one_of a (voices_kept F x vs) h), other_of a (voices_kept F x vs) h)

whole : (F x : ℕ) (v : Voice) (vs : List Voice) → Voiced F x v.phase v.position → voices_kept F x vs ≡ true → voices_kept F x (v ∷ vs) ≡ true
whole F x v vs h k = both (voice_closed F x v.phase v.position h) k

pub voices_less : (F x y : ℕ) (vs : List Voice) → y ≤ x → voices_kept F x vs ≡ true → voices_kept F y vs ≡ true
voices_less F x y [] l h = refl
voices_less F x y (v ∷ vs) l h =
    let k = parts F x v vs h in
    whole F y v vs (record { fade = k.0.fade; most = k.0.most; fits = fits_less x y (is_stopped v.phase) v.position l k.0.fits }) (voices_less F x y vs l k.1)

pub stopped_voices : (F x : ℕ) (vs : List Voice) → voices_kept F x vs ≡ true → voices_kept F x (map ended_voice vs) ≡ true
stopped_voices F x [] h = refl
stopped_voices F x (v ∷ vs) h =
    let k = parts F x v vs h in
    whole F x (ended_voice v) (map ended_voice vs) (ended_voiced F x v.phase v.position k.0) (stopped_voices F x vs k.1)

set_voices : (F x u : ℕ) (vs : List Voice) (i : ℕ) → x ≤ 4096 → u ≤ 2 ^ 39 → voices_kept F x vs ≡ true → voices_kept F x (set vs i (started_at u)) ≡ true
set_voices F x u [] i l m h = refl
set_voices F x u (v ∷ vs) zero l m h = whole F x (started_at u) vs (started_voiced F x u l m) (parts F x v vs h).1
set_voices F x u (v ∷ vs) (suc i) l m h = let k = parts F x v vs h in whole F x v (set vs i (started_at u)) k.0 (set_voices F x u vs i l m k.1)

pub started_voices : (F x u : ℕ) (vs : List Voice) (a : Option ℕ) → x ≤ 4096 → u ≤ 2 ^ 39 → voices_kept F x vs ≡ true → voices_kept F x (start_in a u vs) ≡ true
started_voices F x u vs None l m h = h
started_voices F x u vs (Some i) l m h = set_voices F x u vs i l m h

-- "voice positions at most 2^40"
most : (F x : ℕ) (vs : List Voice) (i : ℕ) → voices_kept F x vs ≡ true → (get_or vs i silent).position ≤ 2 ^ 40
most F x [] i h = omega arith
most F x (v ∷ vs) zero h = (parts F x v vs h).0.most
most F x (v ∷ vs) (suc i) h = most F x vs i (parts F x v vs h).1

pub voices_near : (F x k : ℕ) (vs : List Voice) → k ≤ 4096 → voices_kept F x vs ≡ true → Ahead k vs
voices_near F x k vs l h i = let m = most F x vs i h in omega (arith, m)

module _ (rec : List Float) (rn : ℕ) (fade : List Float) (n : ℕ) (ch : Channels) where
  pub mix_voices : (j k x : ℕ) (vs : List Voice) (out : List Float) → voices_kept (length fade) (k + x) vs ≡ true
      → voices_kept (length fade) x (mix rec rn fade n ch j k vs out).voices ≡ true
  unfolding mix
  mix_voices j k x [] out h = refl
  mix_voices j k x (v ∷ vs) out h =
      let f = frames rec rn fade n ch j k (lent v out) in
      let p = parts (length fade) (k + x) v vs h in
      whole (length fade) x f.voice (mix rec rn fade n ch j k vs f.out).voices (frames_voiced rec rn fade n ch j k x (lent v out) p.0) (mix_voices j k x vs f.out p.1)
