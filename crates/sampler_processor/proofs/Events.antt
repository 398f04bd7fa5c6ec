-- The definition's block is the events below its end, each at its frame by whole numbers, and then the frames that are left.
-- The idea: after k events the current time is within k / 2 units of the frames rendered (`Stands`), too little to move a floor. Assumes nothing.
use mathlib.Core.Path.{◌≡◌, refl, sym, ap, ◌∙◌, subst}
use mathlib.Core.Bool.{Bool, true, false, not, cond, ◌&&◌}
use mathlib.Core.List.{List, [], ◌∷◌}
use Prim.Native.Nat.{ℕ, zero, suc, ◌+◌, ◌-◌, ◌*◌, ◌/◌, ◌^◌, ◌≤◌, ◌<◌, max}
use native.Mathlib.Nat.{mul-le-mul_left, mul-le-mul_right, le_trans, le_refl, add-zero, zero-mul, zero-div}
use native.Mathlib.Omega.{arith}
use borrow.Author.Tests.{lt-ltb, ltb-true}
use lib.Dec.{T, ltb, ltb→lt, nltb→le}
use lib.IntN.{ℤ, pos, negsuc, ◌+ℤ◌, ◌-ℤ◌}
use lib.ListN.{length}
use lib.Signed.{lt_z}
use lib.Ieee.{Float}
use lib.Ieee.Nearest.{closest}
use Rattle.laws.proofs.Near.{Near}
use Rattle.laws.proofs.Minus.{Minus, nat_minus, minus_pos}
use Rattle.timestamp.specs.Time.{time_of, frame_at, later}
use Rattle.timestamp.proofs.Time.{T-near}
use Rattle.timestamp.proofs.Frames.{S-floor}
use Rattle.timestamp.proofs.Drift.{Drift, one_more}
use Rattle.timestamp.proofs.Event.{event_frame, event_inside, event_after, event_next}
use Rattle.sampler_event.specs.declared.Event.{Event}
use Rattle.event_processor.specs.declared.Queue.{Queue}
use Rattle.event_processor.specs.Queue.{without, in_order}
use Rattle.event_processor.proofs.Front.{rest_order}
use Rattle.event_processor.proofs.Ordered.{Ordered}
use Rattle.sampler_player.specs.declared.Setup.{Setup}
use Rattle.sampler_player.specs.declared.Player.{Player}
use Rattle.sampler_player.specs.Pieces.{Lent}
use Rattle.sampler_processor.specs.Block.{Running, Ended, frame_of, opening, block_end, up_to, applied, onward, block}
use Rattle.sampler_processor.specs.AtFrames.{below, without_each, exact_frame, to_frame, applied_each}
use Rattle.sampler_processor.proofs.Below.{rest_none}

module _ (s : Setup) (b : Lent) (s0 : ℕ) where
  -- the frames rendered, and the current time, once an event is applied
  pub event_done : (e : Event) (f : ℕ) (r : Running) → r.done ≤ f → (applied s b (pos s0) e (up_to s b (pos s0) f r)).done ≡ f
  unfolding applied up_to
  event_done e f r h = omega arith

  pub event_now_lem : (e : Event) (r : Running) → (applied s b (pos s0) e r).now ≡ r.now
  unfolding applied
  event_now_lem e r = refl

  module _ (low : 8000 ≤ s.rate) (high : s.rate ≤ 96000) (some_frames : 0 < b.block) (few_frames : b.block ≤ 4096) where
    -- T of a number of frames that a block may have
    pub time_any : (n : ℕ) → n < 8 * s.rate → (t : ℕ) × (time_of s.rate n ≡ pos t) × Near t (n * 2 ^ 32) s.rate
    time_any n h = let t = T-near s.rate n (omega arith) (omega arith) h in (closest (n * 2 ^ 32) s.rate, t.0, t.1)

    -- where a block stands after k events, the last at lo
    pub record Stands (lo k : ℕ) (r : Running) : Type 0 where
      pub u : ℕ
      pub now : r.now ≡ pos (s0 + u)
      pub drift : Drift s.rate k r.done u
      pub before : r.done * 2 ^ 32 ≤ (lo - s0) * s.rate
      pub inside : r.done < b.block

    later_is : (t u : ℕ) → later (pos t) (pos (s0 + u)) -ℤ pos s0 ≡ pos (max (t - s0) u)
    later_is t u = go (ltb t (s0 + u)) (ltb→lt t (s0 + u)) (nltb→le t (s0 + u))
      where
        go : (x : Bool) → (T x → t < s0 + u) → (T (not x) → s0 + u ≤ t) → cond x (pos (s0 + u)) (pos t) -ℤ pos s0 ≡ pos (max (t - s0) u)
        go true h k = let l = h tt in minus_pos (pos (s0 + u) -ℤ pos s0) (s0 + u) s0 (max (t - s0) u) (nat_minus (s0 + u) s0) (omega (arith, l))
        go false h k = let l = k tt in minus_pos (pos t -ℤ pos s0) t s0 (max (t - s0) u) (nat_minus t s0) (omega (arith, l))

    -- the end of the block
    pub end_is : (t : ℕ) × (block_end s b (pos s0) ≡ pos (s0 + t)) × Near t (b.block * 2 ^ 32) s.rate × (0 < t)
    end_is =
        let n = time_any b.block (omega arith) in
        (n.0, ap (λ (z : ℤ). pos s0 +ℤ z) n.1, n.2, above n.0 n.2.1)
      where
        above : (t : ℕ) → 2 * (b.block * 2 ^ 32) ≤ 2 * (t * s.rate) + s.rate → 0 < t
        above zero h = absurd (omega arith)
        above (suc t) h = omega arith

    pub below_end : (e : Event) (t : ℕ) → e.time.bits ≡ pos t → lt_z e.time.bits (block_end s b (pos s0)) ≡ true → t - s0 < end_is.0
    below_end e t h l =
        let x : ltb t (s0 + end_is.0) ≡ true = ap (λ (z : ℤ). lt_z z (pos (s0 + end_is.0))) (sym h) ∙ ap (λ (z : ℤ). lt_z e.time.bits z) (sym end_is.1) ∙ l in
        let y : t < s0 + end_is.0 = ltb-true t (s0 + end_is.0) x in
        let z : 0 < end_is.0 = end_is.3 in
        omega arith

    pub frame_is : (e : Event) (t lo k : ℕ) (r : Running) → e.time.bits ≡ pos t → lo ≤ t → t - s0 < end_is.0 → k ≤ 20 → Stands lo k r
        → frame_of s.rate (pos s0) r.now e.time.bits ≡ (t - s0) * s.rate / 2 ^ 32
    unfolding frame_of
    frame_is e t lo k r h l m q i =
        let d = t - s0 in
        let x : later e.time.bits r.now -ℤ pos s0 ≡ pos (max (t - s0) i.u) =
        ap (λ (z : ℤ). later z r.now -ℤ pos s0) h ∙ ap (λ (z : ℤ). later (pos t) z -ℤ pos s0) i.now ∙ later_is t i.u in
        let z : max (t - s0) i.u * s.rate < 2 ^ 53 = sized (t - s0) i.u end_is.0 r.done k m end_is.2.0 i.drift.0 i.inside q in
        ap (λ (y : ℤ). frame_at s.rate y) x
        ∙ S-floor s.rate (max (t - s0) i.u) (omega arith) (narrow (max (t - s0) i.u) z) z
        ∙ event_frame s.rate k r.done i.u (t - s0) (kept k q) i.drift (ahead lo t r.done l i.before)
      where
        sized : (d u t done k : ℕ) → d < t → 2 * (t * s.rate) ≤ 2 * (b.block * 2 ^ 32) + s.rate → 2 * (u * s.rate) ≤ 2 * (done * 2 ^ 32) + k * s.rate → done < b.block → k ≤ 20
            → max d u * s.rate < 2 ^ 53
        sized d u t done k p g h i j =
            let x : max d u * s.rate ≤ (d + u) * s.rate = mul-le-mul_right s.rate (omega arith) in
            let y : suc d * s.rate ≤ t * s.rate = mul-le-mul_right s.rate p in
            let z : k * s.rate ≤ 20 * s.rate = mul-le-mul_right s.rate j in
            omega arith

        narrow : (x : ℕ) → x * s.rate < 2 ^ 53 → x < 2 ^ 53
        narrow x h = let y : x * 1 ≤ x * s.rate = mul-le-mul_left x (omega arith) in omega arith

        kept : (k : ℕ) → k ≤ 20 → k * s.rate < 2 ^ 32
        kept k h = let z : k * s.rate ≤ 20 * s.rate = mul-le-mul_right s.rate h in omega arith

        ahead : (lo t done : ℕ) → lo ≤ t → done * 2 ^ 32 ≤ (lo - s0) * s.rate → done * 2 ^ 32 ≤ (t - s0) * s.rate
        ahead lo t done h g = let z : (lo - s0) * s.rate ≤ (t - s0) * s.rate = mul-le-mul_right s.rate (omega arith) in omega arith

    -- the event's frame is ahead of what is rendered, and inside the block
    pub frame_ahead : (t lo k : ℕ) (r : Running) → lo ≤ t → t - s0 < end_is.0 → Stands lo k r → (r.done ≤ (t - s0) * s.rate / 2 ^ 32) × ((t - s0) * s.rate / 2 ^ 32 < b.block)
    frame_ahead t lo k r l m i =
        let z : (lo - s0) * s.rate ≤ (t - s0) * s.rate = mul-le-mul_right s.rate (omega arith) in
        (event_after s.rate r.done (t - s0) (le_trans i.before z), event_inside s.rate b.block end_is.0 (t - s0) (omega arith) end_is.2 m)

    -- the next event starts from here
    pub stands_next : (e : Event) (t lo k : ℕ) (r : Running) → lo ≤ t → t - s0 < end_is.0 → Stands lo k r
        → Stands t (suc k) (applied s b (pos s0) e (up_to s b (pos s0) ((t - s0) * s.rate / 2 ^ 32) r))
    unfolding applied up_to
    stands_next e t lo k r l m i =
        let f = (t - s0) * s.rate / 2 ^ 32 in
        let a = frame_ahead t lo k r l m i in
        let n = time_any (f - r.done) (omega (arith, a.1)) in
        let x : r.done + (f - r.done) ≡ f = omega (arith, a.0) in
        let y : f - r.done + r.done ≡ f = omega (arith, a.0) in
        record {
          u = n.0 + i.u;
          now = ap (λ (z : ℤ). z +ℤ time_of s.rate (f - r.done)) i.now ∙ ap (λ (z : ℤ). pos (s0 + i.u) +ℤ z) n.1 ∙ ap pos (turned i.u n.0);
          drift = subst (λ (d : ℕ). Drift s.rate (suc k) d (n.0 + i.u)) (y ∙ sym x) (one_more s.rate k r.done i.u (f - r.done) n.0 n.2 i.drift);
          before = subst (λ (d : ℕ). d * 2 ^ 32 ≤ (t - s0) * s.rate) (sym x) (event_next s.rate (t - s0) (t - s0) (le_refl _));
          inside = subst (λ (d : ℕ). d < b.block) (sym x) a.1;
        }
      where
        turned : (u t : ℕ) → s0 + u + t ≡ s0 + (t + u)
        turned u t = omega arith

    -- a block's first frame
    pub stands_first : (p : Player) (out : List Float) (n : ℕ) → Stands 0 0 (record { player = p; out = out; done = 0; now = pos s0; pieces = n })
    stands_first p out n = record { u = 0; now = ap pos (sym (add-zero s0)); drift = (omega arith, omega arith); before = omega arith; inside = some_frames }

    -- ---- the block by whole numbers

    -- the frame that the definition has for it
    pub exact_is : (e : Event) (t : ℕ) → e.time.bits ≡ pos t → exact_frame s.rate (e.time.bits -ℤ pos s0) ≡ (t - s0) * s.rate / 2 ^ 32
    exact_is e t h = ap (λ (z : ℤ). exact_frame s.rate (z -ℤ pos s0)) h ∙ go (pos t -ℤ pos s0) (nat_minus t s0)
      where
        go : (z : ℤ) → Minus z t s0 → exact_frame s.rate z ≡ (t - s0) * s.rate / 2 ^ 32
        go (pos n) m = let k : n ≡ t - s0 = omega arith in ap (λ (d : ℕ). d * s.rate / 2 ^ 32) k
        go (negsuc n) m = let k : 0 ≡ t - s0 = omega arith in sym (zero-div (2 ^ 32)) ∙ ap (λ (d : ℕ). d / 2 ^ 32) (sym (zero-mul s.rate)) ∙ ap (λ (d : ℕ). d * s.rate / 2 ^ 32) k

    -- these events at their frames, then the frames that are left
    abbrev pub through : List Event → Queue → Running → Ended
    through due q r = record { running = up_to s b (pos s0) b.block (applied_each s b (pos s0) due r); queue = without_each due q }

    -- an event below the end, and where the next one starts from
    module _ (e : Event) (t lo k : ℕ) (r : Running) (at : e.time.bits ≡ pos t) (l : lo ≤ t) (m : lt_z e.time.bits (block_end s b (pos s0)) ≡ true) (few : k ≤ 20) (i : Stands lo k r) where
      pub frame_exact : frame_of s.rate (pos s0) r.now e.time.bits ≡ exact_frame s.rate (e.time.bits -ℤ pos s0)
      frame_exact = frame_is e t lo k r at l (below_end e t at m) few i ∙ sym (exact_is e t at)

      pub stands_exact : Stands t (suc k) (applied s b (pos s0) e (to_frame s b (pos s0) e r))
      stands_exact =
          subst (λ (f : ℕ). Stands t (suc k) (applied s b (pos s0) e (up_to s b (pos s0) f r))) (sym (exact_is e t at)) (stands_next e t lo k r l (below_end e t at m) i)

    same_from : (l : List Event) (q : Queue) (lo k : ℕ) (r : Running) → Ordered lo l → in_order l ≡ true → k + length l ≤ 20 → Stands lo k r
        → block s b (pos s0) l q r ≡ through (below (block_end s b (pos s0)) l) q r
    unfolding block
    same_from [] q lo k r o a n i = refl
    same_from (e ∷ es) q lo k r o a n i =
        let end = block_end s b (pos s0) in
        ap (λ (x : Bool). onward s b (pos s0) (λ p t. block s b (pos s0) es p t) e q r (x && lt_z e.time.bits end)) (lt-ltb r.done b.block i.inside)
        ∙ next (λ p t. block s b (pos s0) es p t) (below end es) (λ p x j. same_from es p o.0 (suc k) x o.3 (rest_order (e ∷ es) a) (omega arith) j) (rest_none end e es a)
        (lt_z e.time.bits end) refl
      where
        next : (go : Queue → Running → Ended) (due : List Event) → ((p : Queue) (x : Running) → Stands o.0 (suc k) x → go p x ≡ through due p x)
            → (lt_z e.time.bits (block_end s b (pos s0)) ≡ false → due ≡ []) → (x : Bool) → lt_z e.time.bits (block_end s b (pos s0)) ≡ x
            → onward s b (pos s0) go e q r x ≡ through (cond x (e ∷ due) due) q r
        next go due ih none false h = ap (λ (l : List Event). through l q r) (sym (none h))
        next go due ih none true h =
            ap (λ (f : ℕ). go (without q) (applied s b (pos s0) e (up_to s b (pos s0) f r))) (frame_exact e o.0 lo k r o.1 o.2 h (omega arith) i)
            ∙ ih (without q) (applied s b (pos s0) e (to_frame s b (pos s0) e r)) (stands_exact e o.0 lo k r o.1 o.2 h (omega arith) i)

    -- from a block's first frame, with at most 16 events in order
    pub same_block : (l : List Event) (q : Queue) (p : Player) (out : List Float) → Ordered 0 l → in_order l ≡ true → length l ≤ 16
        → block s b (pos s0) l q (opening p out (pos s0)) ≡ through (below (block_end s b (pos s0)) l) q (opening p out (pos s0))
    same_block l q p out o a n = same_from l q 0 0 (opening p out (pos s0)) o a (omega arith) (stands_first p out 0)
