-- Through a whole block what plays stays within the limits of `kept`: so every segment's bound is enough, and the leg that is handed back is sound.
-- The idea: `Stands` says how far the current time may be from the frames rendered, which bounds an event's delay. Assumes nothing.
use mathlib.Core.Path.{◌≡◌, refl, sym, subst}
use mathlib.Core.Bool.{Bool, true, false, not, cond}
use mathlib.Core.List.{List, [], ◌∷◌}
use Prim.Native.Nat.{ℕ, suc, ◌+◌, ◌-◌, ◌*◌, ◌/◌, ◌^◌, ◌≤◌, ◌<◌}
use native.Mathlib.Nat.{mul-le-mul_right, mul-le-mul_left, le_refl, le_of_lt, sub-zero}
use native.Mathlib.Omega.{arith}
use lib.Dec.{T, leb, leb→le, nleb→lt}
use lib.IntN.{ℤ, pos, neg_ℤ, ◌-ℤ◌}
use lib.ListN.{length}
use lib.Signed.{lt_z}
use lib.Ieee.{Float}
use Rattle.laws.proofs.Minus.{Minus, nat_minus}
use Rattle.timestamp.proofs.Drift.{Drift}
use Rattle.timestamp.proofs.Event.{event_delay}
use Rattle.sampler_event.specs.declared.Event.{Event}
use Rattle.sampler_event.specs.declared.Kind.{Kind}
use Rattle.laws.specs.Rules.{within}
use Rattle.sampler_event.specs.Limits.{positions_bad, loop_bad}
use Rattle.event_processor.specs.declared.Queue.{Queue}
use Rattle.event_processor.specs.Queue.{in_order, empty_queue}
use Rattle.event_processor.proofs.Front.{rest_order}
use Rattle.event_processor.proofs.Ordered.{Ordered}
use Rattle.sampler_player.specs.declared.Setup.{Setup}
use Rattle.sampler_player.specs.declared.Player.{Player}
use Rattle.sampler_player.specs.Clock.{clock_at}
use Rattle.sampler_player.specs.Events.{apply}
use Rattle.sampler_player.specs.Pieces.{Lent, Going, segment}
use Rattle.sampler_player.specs.inner.Kept.{kept}
use Rattle.sampler_player.proofs.Kept.{stands_at, stands_within}
use Rattle.sampler_processor.specs.Block.{Running, Ended, opening, block_end, up_to, applied, block}
use Rattle.sampler_processor.specs.AtFrames.{below, to_frame}
use Rattle.sampler_processor.proofs.Below.{rest_none}
use Rattle.sampler_processor.proofs.Events.{Stands, end_is, below_end, frame_ahead, event_done, stands_next, stands_first, exact_is, through, stands_exact, same_block}

-- what numbers 11 and 12 leave of each event
abbrev pub Fit : Setup → Kind → Type 0
Fit s k = (positions_bad k ≡ false) × (loop_bad s.rate s.fade k ≡ false)

abbrev pub AllFit : Setup → List Event → Type 0
AllFit s [] = Unit {0}
AllFit s (e ∷ es) = Fit s e.kind × AllFit s es

-- a delay that an event may have with x frames to come
abbrev pub Delayed : ℕ → ℤ → Type 0
Delayed x z = within (neg_ℤ (pos (2 ^ 20))) (pos (2 ^ 48 + 2 ^ 34 - x * 2 ^ 20)) z ≡ true

module _ (s : Setup) (b : Lent) (s0 : ℕ) (low : 8000 ≤ s.rate) (high : s.rate ≤ 96000) (some_frames : 0 < b.block) (few_frames : b.block ≤ 4096) (soon : s0 ≤ 2 ^ 48) where
  -- ---- an event's delay

  shortly : (done u k : ℕ) → k ≤ 20 → 2 * (u * s.rate) ≤ 2 * (done * 2 ^ 32) + k * s.rate → u ≤ done * 2 ^ 20 + 20
  shortly done u k h g = go (leb u (done * 2 ^ 20 + 20)) (leb→le u (done * 2 ^ 20 + 20)) (nleb→lt u (done * 2 ^ 20 + 20))
    where
      go : (x : Bool) → (T x → u ≤ done * 2 ^ 20 + 20) → (T (not x) → done * 2 ^ 20 + 20 < u) → u ≤ done * 2 ^ 20 + 20
      go true p q = p tt
      go false p q =
          let y : (done * 2 ^ 20 + 21) * s.rate ≤ u * s.rate = mul-le-mul_right s.rate (omega (arith, q tt)) in
          let z : done * 8000 ≤ done * s.rate = mul-le-mul_left done low in
          let a : k * s.rate ≤ 20 * s.rate = mul-le-mul_right s.rate h in
          absurd (omega arith)

  barely : (d u k : ℕ) → k ≤ 20 → 2 * (d * s.rate) < 2 * (u * s.rate) + 2 ^ 33 + k * s.rate → d ≤ u + 2 ^ 20
  barely d u k h g = go (leb d (u + 2 ^ 20)) (leb→le d (u + 2 ^ 20)) (nleb→lt d (u + 2 ^ 20))
    where
      go : (x : Bool) → (T x → d ≤ u + 2 ^ 20) → (T (not x) → u + 2 ^ 20 < d) → d ≤ u + 2 ^ 20
      go true p q = p tt
      go false p q =
          let y : (u + 2 ^ 20) * s.rate ≤ d * s.rate = mul-le-mul_right s.rate (le_of_lt (q tt)) in
          let a : k * s.rate ≤ 20 * s.rate = mul-le-mul_right s.rate h in
          absurd (omega arith)

  -- the delay of an event at t, in a running whose frames reach the event's
  pub delayed : (t lo k : ℕ) (r : Running) → k ≤ 20 → r.done ≡ (t - s0) * s.rate / 2 ^ 32 → Stands s b s0 low high some_frames few_frames lo k r → Delayed (b.block - r.done) (r.now -ℤ pos t)
  delayed t lo k r q e j =
      let c : t - s0 ≤ j.u + 2 ^ 20 = barely (t - s0) j.u k q (event_delay s.rate k (t - s0) j.u (subst (λ (y : ℕ). Drift s.rate k y j.u) e j.drift)).0 in
      let o : j.u ≤ r.done * 2 ^ 20 + 20 = shortly r.done j.u k q j.drift.0 in
      let i = j.inside in
      stands_within (b.block - r.done) (r.now -ℤ pos t)
      (stands_at (b.block - r.done) (r.now -ℤ pos t) (s0 + j.u) t (omega arith)
      (subst (λ (z : ℤ). Minus (z -ℤ pos t) (s0 + j.u) t) (sym j.now) (nat_minus (s0 + j.u) t)) (omega arith) (omega arith))

  -- ---- what plays

  module _ (seg : (x : ℕ) (g : Going) → g.remaining ≤ x → x ≤ 4096 → kept s x g.player ≡ true → kept s (x - g.remaining) (segment (clock_at s.rate) s b g).player ≡ true)
      (app : (x : ℕ) (k : Kind) (z : ℤ) (p : Player) → x ≤ 4096 → Fit s k → Delayed x z → kept s x p ≡ true → kept s x (apply s.rate k z p) ≡ true) where
    pub up_to_kept : (f : ℕ) (r : Running) → r.done ≤ f → f ≤ b.block → kept s (b.block - r.done) r.player ≡ true → kept s (b.block - f) (up_to s b (pos s0) f r).player ≡ true
    unfolding up_to
    up_to_kept f r h g i =
        let g' : Going = record { player = r.player; out = r.out; at = r.done; remaining = f - r.done; pieces = r.pieces } in
        subst (λ (x : ℕ). kept s x (segment (clock_at s.rate) s b g').player ≡ true) (less b.block f r.done h g) (seg (b.block - r.done) g' (omega arith) (omega arith) i)
      where
        less : (n f d : ℕ) → d ≤ f → f ≤ n → n - d - (f - d) ≡ n - f
        less n f d h g = omega arith

    pub event_kept : (e : Event) (t lo k : ℕ) (r : Running) → e.time.bits ≡ pos t → lo ≤ t → t - s0 < (end_is s b s0 low high some_frames few_frames).0 → suc k ≤ 20 → Fit s e.kind
        → Stands s b s0 low high some_frames few_frames lo k r
        → kept s (b.block - r.done) r.player ≡ true
        → kept s (b.block - (t - s0) * s.rate / 2 ^ 32) (applied s b (pos s0) e (up_to s b (pos s0) ((t - s0) * s.rate / 2 ^ 32) r)).player ≡ true
    unfolding applied
    event_kept e t lo k r h l m q a i p =
        let f = (t - s0) * s.rate / 2 ^ 32 in
        let v = frame_ahead s b s0 low high some_frames few_frames t lo k r l m i in
        let j = stands_next s b s0 low high some_frames few_frames e t lo k r l m i in
        let u = up_to s b (pos s0) f r in
        let d : u.done ≡ f = event_done s b s0 e f r v.0 in
        let z : Delayed (b.block - u.done) (u.now -ℤ pos t) = delayed t t (suc k) (applied s b (pos s0) e u) q d j in
        app (b.block - f) e.kind (u.now -ℤ e.time.bits) u.player (omega arith) a
        (subst (λ (y : ℤ). Delayed (b.block - f) (u.now -ℤ y)) (sym h) (subst (λ (x : ℕ). Delayed (b.block - x) (u.now -ℤ pos t)) d z))
        (up_to_kept f r v.0 (le_of_lt v.1) p)

    -- each event below the end, and the frames that are left
    abbrev Ends : List Event → Running → Type 0
    Ends due r = kept s (b.block - b.block) (through s b s0 low high some_frames few_frames due empty_queue r).running.player ≡ true

    block_kept : (l : List Event) (lo k : ℕ) (r : Running) → Ordered lo l → in_order l ≡ true → AllFit s l → k + length l ≤ 20
        → Stands s b s0 low high some_frames few_frames lo k r
        → kept s (b.block - r.done) r.player ≡ true
        → Ends (below (block_end s b (pos s0)) l) r
    block_kept [] lo k r o m a n i p = up_to_kept b.block r (le_of_lt i.inside) (le_refl _) p
    block_kept (e ∷ es) lo k r o m a n i p =
        next (below (block_end s b (pos s0)) es) (rest_none (block_end s b (pos s0)) e es m) (λ x j c. block_kept es o.0 (suc k) x o.3 (rest_order (e ∷ es) m) a.1 (omega arith) j c)
        (lt_z e.time.bits (block_end s b (pos s0))) refl
      where
        next : (due : List Event) → (lt_z e.time.bits (block_end s b (pos s0)) ≡ false → due ≡ [])
            → ((x : Running) → Stands s b s0 low high some_frames few_frames o.0 (suc k) x → kept s (b.block - x.done) x.player ≡ true → Ends due x)
            → (y : Bool) → lt_z e.time.bits (block_end s b (pos s0)) ≡ y → Ends (cond y (e ∷ due) due) r
        next due none ih false h = subst (λ (l : List Event). Ends l r) (sym (none h)) (up_to_kept b.block r (le_of_lt i.inside) (le_refl _) p)
        next due none ih true h =
            let w = below_end s b s0 low high some_frames few_frames e o.0 o.1 h in
            let f = (o.0 - s0) * s.rate / 2 ^ 32 in
            let v = frame_ahead s b s0 low high some_frames few_frames o.0 lo k r o.2 w i in
            let c = event_kept e o.0 lo k r o.1 o.2 w (omega arith) a.0 i p in
            let y = applied s b (pos s0) e (up_to s b (pos s0) f r) in
            let d : kept s (b.block - y.done) y.player ≡ true =
            subst (λ (x : ℕ). kept s (b.block - x) y.player ≡ true) (sym (event_done s b s0 e f r v.0)) c in
            ih (applied s b (pos s0) e (to_frame s b (pos s0) e r))
            (stands_exact s b s0 low high some_frames few_frames e o.0 lo k r o.1 o.2 h (omega arith) i)
            (subst (λ (x : ℕ). kept s (b.block - (applied s b (pos s0) e (up_to s b (pos s0) x r)).done) (applied s b (pos s0) e (up_to s b (pos s0) x r)).player ≡ true)
            (sym (exact_is s b s0 low high some_frames few_frames e o.0 o.1)) d)

    -- through a whole block of the definition
    pub kept_through : (l : List Event) (q : Queue) (p : Player) (out : List Float) → Ordered 0 l → in_order l ≡ true → AllFit s l → length l ≤ 16 → kept s b.block p ≡ true
        → kept s (b.block - b.block) (block s b (pos s0) l q (opening p out (pos s0))).running.player ≡ true
    kept_through l q p out o m a n i =
        subst (λ (e : Ended). kept s (b.block - b.block) e.running.player ≡ true) (sym (same_block s b s0 low high some_frames few_frames l q p out o m n))
        (block_kept l 0 0 (opening p out (pos s0)) o m a (omega arith) (stands_first s b s0 low high some_frames few_frames p out 0)
        (subst (λ (x : ℕ). kept s x p ≡ true) (sym (sub-zero b.block)) i))
