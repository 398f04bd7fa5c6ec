-- One voice's limits, through Stop, a start and frames: a frame less to come for each frame that was rendered.
-- The idea: a voice that sounds moves on by a frame a frame at most, and one that is Stopped stays (sampler_voice's Moves). Assumes nothing.
use Prim.Native.Nat.{ℕ, ◌+◌, ◌^◌, ◌≤◌}
use native.Mathlib.Omega.{arith}
use mathlib.Core.Path.{◌≡◌, refl, sym, subst}
use mathlib.Core.Bool.{Bool, true, false, ◌&&◌, ◌||◌}
use mathlib.Core.List.{List}
use borrow.Author.Tests.{le-leb, leb-true}
use lib.Dec.{leb}
use lib.ListN.{length}
use lib.Ieee.{Float}
use Rattle.sampler_voice.specs.declared.Channels.{Channels}
use Rattle.sampler_voice.specs.declared.Phase.{Phase}
use Rattle.sampler_voice.specs.declared.Phase.TheVariants.{Stopped, FadingIn, Playing, FadingOut}
use Rattle.sampler_voice.specs.Voices.{is_stopped, fade_good, started_at, ended, Heard, frames}
use Rattle.sampler_voice.proofs.Phases.{started_fade, ended_fade, frames_fade}
use Rattle.sampler_voice.proofs.Moves.{frames_moved, frames_still}
use Rattle.laws.proofs.Tests.{both, one_of, other_of}

-- one voice, at p in a phase, with x frames to come
abbrev pub Fits : ℕ → Phase → ℕ → Type 0
Fits x ph p = (is_stopped ph || leb (p + x) (2 ^ 39 + 4096)) ≡ true

pub record Voiced (F x : ℕ) (ph : Phase) (p : ℕ) : Type 0 where
  pub fade : fade_good F ph ≡ true
  pub most : p ≤ 2 ^ 40
  pub fits : Fits x ph p

pub voice_opened : (F x : ℕ) (ph : Phase) (p : ℕ) → (fade_good F ph && (leb p (2 ^ 40) && (is_stopped ph || leb (p + x) (2 ^ 39 + 4096)))) ≡ true → Voiced F x ph p
voice_opened F x ph p h =
    let a = fade_good F ph in
    let b = leb p (2 ^ 40) in
    let c = is_stopped ph || leb (p + x) (2 ^ 39 + 4096) in
    let g : (b && c) ≡ true = other_of a (b && c) h in
    record { fade = one_of a (b && c) h; most = leb-true p (2 ^ 40) (one_of b c g); fits = other_of b c g }

pub voice_closed : (F x : ℕ) (ph : Phase) (p : ℕ) → Voiced F x ph p → (fade_good F ph && (leb p (2 ^ 40) && (is_stopped ph || leb (p + x) (2 ^ 39 + 4096)))) ≡ true
voice_closed F x ph p v = both v.fade (both (le-leb p (2 ^ 40) v.most) v.fits)

-- ---- what sounds has room
fits_when : (x : ℕ) (t : Bool) (p : ℕ) → p + x ≤ 2 ^ 39 + 4096 → (t || leb (p + x) (2 ^ 39 + 4096)) ≡ true
fits_when x true p h = refl
fits_when x false p h = le-leb (p + x) (2 ^ 39 + 4096) h

pub fits_less : (x y : ℕ) (t : Bool) (p : ℕ) → y ≤ x → (t || leb (p + x) (2 ^ 39 + 4096)) ≡ true → (t || leb (p + y) (2 ^ 39 + 4096)) ≡ true
fits_less x y true p l h = refl
fits_less x y false p l h = let k = leb-true (p + x) (2 ^ 39 + 4096) h in le-leb (p + y) (2 ^ 39 + 4096) (omega (arith, k))

-- ---- Stop, and a start
pub ended_voiced : (F x : ℕ) (ph : Phase) (p : ℕ) → Voiced F x ph p → Voiced F x (ended ph) p
ended_voiced F x Stopped p v = v
ended_voiced F x (FadingIn i) p v = record { fade = ended_fade F (FadingIn i) v.fade; most = v.most; fits = v.fits }
ended_voiced F x Playing p v = record { fade = ended_fade F Playing v.fade; most = v.most; fits = v.fits }
ended_voiced F x (FadingOut i) p v = v

pub started_voiced : (F x u : ℕ) → x ≤ 4096 → u ≤ 2 ^ 39 → Voiced F x (started_at u).phase (started_at u).position
started_voiced F x u l h =
    record { fade = started_fade F u; most = omega arith; fits = fits_when x (is_stopped (started_at u).phase) u (omega arith) }

-- ---- frames
module _ (rec : List Float) (rn : ℕ) (fade : List Float) (n : ℕ) (ch : Channels) where
  pub frames_voiced : (j k x : ℕ) (h : Heard) → Voiced (length fade) (k + x) h.voice.phase h.voice.position
      → Voiced (length fade) x (frames rec rn fade n ch j k h).voice.phase (frames rec rn fade n ch j k h).voice.position
  frames_voiced j k x h v = go (is_stopped h.voice.phase) refl
    where
      go : (t : Bool) → is_stopped h.voice.phase ≡ t → Voiced (length fade) x (frames rec rn fade n ch j k h).voice.phase (frames rec rn fade n ch j k h).voice.position
      go true e =
          subst (λ (g : Heard). Voiced (length fade) x g.voice.phase g.voice.position) (sym (frames_still rec rn fade n ch j k h e))
          (record { fade = v.fade; most = v.most; fits = fits_less (k + x) x (is_stopped h.voice.phase) h.voice.position (omega arith) v.fits })
      go false e =
          let g = (frames rec rn fade n ch j k h).voice in
          let l = leb-true (h.voice.position + (k + x)) (2 ^ 39 + 4096) (subst (λ (t : Bool). (t || leb (h.voice.position + (k + x)) (2 ^ 39 + 4096)) ≡ true) e v.fits) in
          let m = (frames_moved rec rn fade n ch j k h).1 in
          record { fade = frames_fade rec rn fade n ch j k h v.fade; most = omega (arith, l, m); fits = fits_when x (is_stopped g.phase) g.position (omega (arith, l, m)) }
