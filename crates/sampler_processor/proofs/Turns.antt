-- What the block's loop carries from turn to turn: that the rest of the block from here is the whole block's end, where the block stands, and that what plays and waits is in its limits.
-- The idea: a turn is one step of the definition's recursion on the events that wait. Assumes nothing.
use mathlib.Core.Path.{◌≡◌, refl, sym, ap, ap₂, ◌∙◌, subst}
use mathlib.Core.Bool.{Bool, true, false, cond, ◌&&◌, and-eq-true_iff}
use mathlib.Core.List.{List, [], ◌∷◌}
use Prim.Native.Nat.{ℕ, suc, ◌+◌, ◌-◌, ◌*◌, ◌/◌, ◌^◌, ◌≤◌, ◌<◌}
use native.Mathlib.Nat.{mul-le-mul_right, le_refl, le_trans, le_of_lt, le_of_eq, sub-le, sub-zero}
use native.Mathlib.Omega.{arith}
use borrow.Author.Tests.{lt-ltb, leb-true, le-leb}
use lib.Dec.{lit≤}
use lib.IntN.{ℤ, pos, negsuc, neg_ℤ, nat_abs, ◌-ℤ◌}
use lib.ListN.{length, drop, length-take}
use lib.Signed.{lt_z}
use lib.Ieee.{Float}
use Rattle.laws.proofs.Tests.{yes}
use Rattle.sampler_event.specs.declared.Event.{Event}
use Rattle.sampler_event.specs.declared.Kind.{Kind}
use Rattle.laws.specs.Rules.{within}
use Rattle.sampler_event.specs.Limits.{admissible}
use Rattle.sampler_event.proofs.UpTo.{UpTo}
use Rattle.sampler_event.proofs.Admissible.{passed, time_up}
use Rattle.event_processor.specs.declared.Queue.{Queue}
use Rattle.std.specs.Prelude.{Option, None, Some}
use Rattle.event_processor.specs.Queue.{pending, without, first_before, each}
use Rattle.event_processor.proofs.Pending.{pending_without}
use Rattle.event_processor.proofs.Places.{without_places}
use Rattle.event_processor.proofs.Ordered.{Ordered, ordered}
use Rattle.sampler_player.specs.declared.Setup.{Setup}
use Rattle.sampler_player.specs.declared.Player.{Player}
use Rattle.sampler_player.specs.Clock.{clock_at}
use Rattle.sampler_player.specs.Events.{apply}
use Rattle.sampler_player.specs.Pieces.{Lent, Going, segment}
use Rattle.sampler_player.specs.inner.Kept.{kept}
use Rattle.sampler_player.proofs.Enough.{segment_kept}
use Rattle.sampler_player.proofs.Applied.{apply_kept}
use Rattle.sampler_processor.specs.Numbers.{queue_good}
use Rattle.sampler_processor.specs.Block.{Running, Ended, opening, block_end, up_to, applied, past, onward, block}
use Rattle.sampler_processor.specs.inner.Stands.{Reaches}
use Rattle.sampler_processor.proofs.Times.{up_within, up_more}
use Rattle.sampler_processor.proofs.Legs.{queued}
use Rattle.sampler_processor.proofs.NoneDue.{none_due}
use Rattle.sampler_processor.proofs.Events.{Stands, below_end, frame_is, frame_ahead, event_done, event_now_lem, stands_next, stands_first}
use Rattle.sampler_processor.proofs.Blocks.{Fit, AllFit, Delayed, delayed, event_kept}
use Rattle.sampler_processor.proofs.Segments.{segment_pieces}

-- ---- what a good queue gives
pub all_fit : (s : Setup) (l : List Event) → each (admissible s.rate s.fade) l ≡ true → AllFit s l
all_fit s [] h = tt
all_fit s (e ∷ es) h =
    let a = (and-eq-true_iff (admissible s.rate s.fade e) (each (admissible s.rate s.fade) es)).0 h in
    let m = passed s.rate s.fade e a.0 in
    ((m.places, m.loop), all_fit s es a.1)

pub length_pending : (q : Queue) → length (pending q) ≤ q.count
length_pending q = let e = length-take q.count q.events in omega (arith, e)

-- ---- the turn
pub record Turn (s : Setup) (b : Lent) (s0 : ℕ) (Z : Ended) (q : Queue) (r : Running) : Type 0 where
  pub low : 8000 ≤ s.rate
  pub high : s.rate ≤ 96000
  pub some_frames : 0 < b.block
  pub few_frames : b.block ≤ 4096
  pub table : length b.table ≡ s.fade
  pub soon : s0 ≤ 2 ^ 48
  pub lo : ℕ
  pub k : ℕ
  pub is : block s b (pos s0) (pending q) q r ≡ Z
  pub at : Stands s b s0 low high some_frames few_frames lo k r
  pub inside : kept s (b.block - r.done) r.player ≡ true
  pub order : Ordered lo (pending q)
  pub fit : AllFit s (pending q)
  pub timely : each (admissible s.rate s.fade) (pending q) ≡ true
  pub few : k + length (pending q) ≤ 16
  pub room : q.count ≤ 16
  pub places : length q.events ≡ 16
  pub pieces : r.pieces ≤ r.done

pub turn_first : (s : Setup) (b : Lent) (s0 : ℕ) (q : Queue) (p : Player) (out : List Float) → 8000 ≤ s.rate → s.rate ≤ 96000 → 0 < b.block → b.block ≤ 4096 → length b.table ≡ s.fade
    → s0 ≤ 2 ^ 48 → kept s b.block p ≡ true → queue_good s q ≡ true → length q.events ≡ 16
    → Turn s b s0 (block s b (pos s0) (pending q) q (opening p out (pos s0))) q (opening p out (pos s0))
turn_first s b s0 q p out low high some few table soon k g e =
    let w = queued s q g in
    let n : length (pending q) ≤ 16 = le_trans (length_pending q) w.few in
    record {
      low = low;
      high = high;
      some_frames = some;
      few_frames = few;
      table = table;
      soon = soon;
      lo = 0;
      k = 0;
      is = refl;
      at = stands_first s b s0 low high some few p out 0;
      inside = subst (λ (x : ℕ). kept s x p ≡ true) (sym (sub-zero b.block)) k;
      order = ordered s.rate s.fade (pending q) w.each_one w.ordered;
      fit = all_fit s (pending q) w.each_one;
      timely = w.each_one;
      few = omega (arith, n);
      room = w.few;
      places = e;
      pieces = le_refl _;
    }

no_event : {X : Type 0} (e : Event) → ◌≡◌ {A = Option Event} None (Some e) → X
no_event e h = let z : ◌≡◌ {A = ℕ} 0 1 = cc in absurd (omega arith)

-- ---- an event is due
pub record Taken (s : Setup) (b : Lent) (s0 : ℕ) (Z : Ended) (q : Queue) (r : Running) (e : Event) : Type 0 where
  pub reaches : Reaches s b (pos s0) e r
  pub next : Turn s b s0 Z (without q) (past s b (pos s0) e r)

-- a delay that is in its limits with frames to come fits the limits of the call
shorter : (x : ℕ) (z : ℤ) → x ≤ 4096 → within (neg_ℤ (pos (2 ^ 20))) (pos (2 ^ 48 + 2 ^ 34 - x * 2 ^ 20)) z ≡ true → within (neg_ℤ (pos (2 ^ 20))) (pos (2 ^ 49)) z ≡ true
shorter x (pos n) h w = le-leb n (2 ^ 49) (under (leb-true n (2 ^ 48 + 2 ^ 34 - x * 2 ^ 20) w))
  where
    under : n ≤ 2 ^ 48 + 2 ^ 34 - x * 2 ^ 20 → n ≤ 2 ^ 49
    under k = omega arith
shorter x (negsuc n) h w = w

module _ (s : Setup) (b : Lent) (s0 : ℕ) (Z : Ended) (q : Queue) (r : Running) (u : Turn s b s0 Z q r) where
  pub now_up : UpTo (2 ^ 49) r.now
  now_up =
      let w : u.at.u ≤ 2 ^ 48 = early u.at.u r.done u.k u.at.drift.0 u.at.inside (omega (arith, u.few)) in
      record { is = subst (λ (z : ℤ). z ≡ pos (nat_abs z)) (sym u.at.now) refl; most = subst (λ (z : ℤ). nat_abs z ≤ 2 ^ 49) (sym u.at.now) (sum u.at.u w) }
    where
      early : (v done k : ℕ) → 2 * (v * s.rate) ≤ 2 * (done * 2 ^ 32) + k * s.rate → done < b.block → k ≤ 16 → v ≤ 2 ^ 48
      early v done k d i j = native.Mathlib.Nat.le_of_mul-le-mul_right {k = s.rate} (wide v done k d i (mul-le-mul_right s.rate j)) (native.Mathlib.Nat.lt_of_lt_of_le (lit≤ tt) u.low)
        where
          wide : (v done k : ℕ) → 2 * (v * s.rate) ≤ 2 * (done * 2 ^ 32) + k * s.rate → done < b.block → k * s.rate ≤ 16 * s.rate → v * s.rate ≤ 2 ^ 48 * s.rate
          wide v done k d i j = let l = u.low in let f = u.few_frames in omega arith

      sum : (v : ℕ) → v ≤ 2 ^ 48 → s0 + v ≤ 2 ^ 49
      sum v h = let o = u.soon in omega arith

  pub pieces_few : r.pieces ≤ 2 ^ 32
  pieces_few = le_trans u.pieces (le_trans (le_of_lt u.at.inside) (le_trans u.few_frames (lit≤ tt)))

  -- one step of the definition
  step : (x : Event) (xs : List Event) → lt_z x.time.bits (block_end s b (pos s0)) ≡ true
      → block s b (pos s0) (x ∷ xs) q r ≡ block s b (pos s0) xs (without q) (past s b (pos s0) x r)
  unfolding block
  step x xs h =
      ap₂ (λ (y z : Bool). onward s b (pos s0) (λ w t. block s b (pos s0) xs w t) x q r (y && z)) (lt-ltb r.done b.block u.at.inside) h

  -- what the next turn starts from, at a frame f
  abbrev Next : Event → ℕ → Type 0
  Next x f =
      (r.done ≤ f) × (f < b.block)
      × (within (neg_ℤ (pos (2 ^ 20))) (pos (2 ^ 49)) ((up_to s b (pos s0) f r).now -ℤ x.time.bits) ≡ true)
      × (block s b (pos s0) (pending (without q)) (without q) (applied s b (pos s0) x (up_to s b (pos s0) f r)) ≡ Z → Turn s b s0 Z (without q) (applied s b (pos s0) x (up_to s b (pos s0) f r)))

  seg : (x : ℕ) (g : Going) → g.remaining ≤ x → x ≤ 4096 → kept s x g.player ≡ true → kept s (x - g.remaining) (segment (clock_at s.rate) s b g).player ≡ true
  seg x g i small k = segment_kept s b u.low u.high u.table x small g i k

  app : (x : ℕ) (e : Kind) (z : ℤ) (p : Player) → x ≤ 4096 → Fit s e → Delayed x z → kept s x p ≡ true → kept s x (apply s.rate e z p) ≡ true
  app x e z p small f d k = apply_kept s x u.high small e z p f.0 f.1 d k

  pieces_here : (x : Event) (f : ℕ) → r.done ≤ f → (applied s b (pos s0) x (up_to s b (pos s0) f r)).pieces ≤ (applied s b (pos s0) x (up_to s b (pos s0) f r)).done
  unfolding applied up_to
  pieces_here x f h =
      let g = segment_pieces (clock_at s.rate) s b (record { player = r.player; out = r.out; at = r.done; remaining = f - r.done; pieces = r.pieces }) in
      let p = u.pieces in
      omega (arith, g)

  at_head : (x : Event) (xs : List Event) → pending q ≡ x ∷ xs → lt_z x.time.bits (block_end s b (pos s0)) ≡ true → Taken s b s0 Z q r x
  at_head x xs p h =
      let o : Ordered u.lo (x ∷ xs) = subst (Ordered u.lo) p u.order in
      let a : AllFit s (x ∷ xs) = subst (AllFit s) p u.fit in
      let c : each (admissible s.rate s.fade) (x ∷ xs) ≡ true = subst (λ (l : List Event). each (admissible s.rate s.fade) l ≡ true) p u.timely in
      let n : u.k + length (x ∷ xs) ≤ 16 = subst (λ (l : List Event). u.k + length l ≤ 16) p u.few in
      let t = o.0 in
      let F = (t - s0) * s.rate / 2 ^ 32 in
      let d = (and-eq-true_iff (admissible s.rate s.fade x) (each (admissible s.rate s.fade) xs)).0 c in
      let m = below_end s b s0 u.low u.high u.some_frames u.few_frames x t o.1 h in
      let e = frame_is s b s0 u.low u.high u.some_frames u.few_frames x t u.lo u.k r o.1 o.2 m (omega (arith, n)) u.at in
      let v = frame_ahead s b s0 u.low u.high u.some_frames u.few_frames t u.lo u.k r o.2 m u.at in
      let y = applied s b (pos s0) x (up_to s b (pos s0) F r) in
      let j = stands_next s b s0 u.low u.high u.some_frames u.few_frames x t u.lo u.k r o.2 m u.at in
      let k = event_kept s b s0 u.low u.high u.some_frames u.few_frames u.soon seg app x t u.lo u.k r o.1 o.2 m (omega (arith, n)) a.0 u.at u.inside in
      let f : y.done ≡ F = event_done s b s0 x F r v.0 in
      let z = delayed s b s0 u.low u.high u.some_frames u.few_frames u.soon t t (suc u.k) y (omega (arith, n)) f j in
      let w : pending (without q) ≡ xs = pending_without q (le_trans u.room (le_of_eq (sym u.places))) ∙ ap (drop 1) p in
      let at-F : Next x F = (
        v.0,
        v.1,
        subst (λ (i : ℤ). within (neg_ℤ (pos (2 ^ 20))) (pos (2 ^ 49)) ((up_to s b (pos s0) F r).now -ℤ i) ≡ true) (sym o.1)
            (subst (λ (i : ℤ). within (neg_ℤ (pos (2 ^ 20))) (pos (2 ^ 49)) (i -ℤ pos t) ≡ true) (event_now_lem s b s0 x (up_to s b (pos s0) F r))
            (shorter (b.block - y.done) (y.now -ℤ pos t) (few_left y.done) z)),
        λ (is : block s b (pos s0) (pending (without q)) (without q) y ≡ Z).
            record {
              low = u.low;
              high = u.high;
              some_frames = u.some_frames;
              few_frames = u.few_frames;
              table = u.table;
              soon = u.soon;
              lo = t;
              k = suc u.k;
              is = is;
              at = j;
              inside = subst (λ (i : ℕ). kept s (b.block - i) y.player ≡ true) (sym f) k;
              order = subst (Ordered t) (sym w) o.3;
              fit = subst (AllFit s) (sym w) a.1;
              timely = subst (λ (l : List Event). each (admissible s.rate s.fade) l ≡ true) (sym w) d.1;
              few = subst (λ (l : List Event). suc u.k + length l ≤ 16) (sym w) (omega (arith, n));
              room = le_trans (sub-le q.count 1) u.room;
              places = without_places q u.places;
              pieces = pieces_here x F v.0;
            },
      ) in
      let at = subst (Next x) (sym e) at-F in
      let up = time_up x (passed s.rate s.fade x d.0).time in
      record {
        reaches =
            record {
              from = up_within (2 ^ 49) (pos s0) (record { is = refl; most = le_trans u.soon (lit≤ tt) });
              now = up_within (2 ^ 49) r.now now_up;
              time = up_within (2 ^ 49) x.time.bits (up_more (2 ^ 48) (2 ^ 49) x.time.bits (lit≤ tt) up);
              limits = u.inside;
              pieces = pieces_few;
              places = a.0.0;
              ahead = at.0;
              inside = le_of_lt at.1;
              delay = yes at.2;
            };
        next = at.3 (ap (λ (l : List Event). block s b (pos s0) l (without q) (past s b (pos s0) x r)) w ∙ sym (step x xs h) ∙ ap (λ (l : List Event). block s b (pos s0) l q r) (sym p) ∙ u.is);
      }
    where
      few_left : (d : ℕ) → b.block - d ≤ 4096
      few_left d = let f = u.few_frames in omega arith

  -- from the definition's list
  turn_list : (l : List Event) → pending q ≡ l → (e : Event) → first_before (block_end s b (pos s0)) l ≡ Some e → Taken s b s0 Z q r e
  turn_list [] p e f = no_event e f
  turn_list (x ∷ xs) p e f = go (lt_z x.time.bits (block_end s b (pos s0))) refl f
    where
      go : (y : Bool) → lt_z x.time.bits (block_end s b (pos s0)) ≡ y → cond y (Some x) None ≡ Some e → Taken s b s0 Z q r e
      go false h g = no_event e g
      go true h g = let i : x ≡ e = cc in subst (Taken s b s0 Z q r) i (at_head x xs p h)

  pub turn_due : (e : Event) → first_before (block_end s b (pos s0)) (pending q) ≡ Some e → Taken s b s0 Z q r e
  turn_due e f = turn_list (pending q) refl e f

  -- ---- none is due: the rest of the block
  pub turn_last : first_before (block_end s b (pos s0)) (pending q) ≡ None → Z ≡ record { running = up_to s b (pos s0) b.block r; queue = q }
  turn_last f = sym u.is ∙ none_due s b (pos s0) (pending q) q r f
