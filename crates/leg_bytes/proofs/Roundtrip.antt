-- Reading what was written of a leg gives that leg back, where its numbers fit their fields.
-- The idea: each field's bytes stand where they are read, and the number of a number's bytes is the number. Assumes nothing.
use Rattle.std.proofs.Common.{◌≡◌, ℕ, zero, suc, ◌+◌, ◌-◌, ◌*◌, ◌%◌, ◌^◌, ◌<◌, ◌≤◌, Bool, true, false, ◌&&◌, eqb, ltb, List, [], ◌∷◌, ◌++◌, length, get_or, take, drop, ℤ, pos, negsuc, sym, refl, ap, ◌∙◌, inl, inr, le_refl, eq-or-lt_of_le, suc-ne-zero, arith, lit<, length-set, get_or-set_other, get_or-set_same, drop-drop, ext_get_or, drop_at, w64, SFits, ltb-false, le-ltb, lt-ltb, ne_eqb, Option, None, Some}
use native.Mathlib.Nat.{suc_inj}
use lib.Seq.{drop-append-le}
use Rattle.timestamp.specs.declared.Timestamp.{Timestamp}
use Rattle.sampler_event.specs.declared.Kind.{Kind}
use Rattle.sampler_event.specs.declared.Kind.TheVariants.{Start, StartImmediate, Stop, EnableLoop, CancelLoop, CancelAll}
use Rattle.sampler_event.specs.declared.Event.{Event}
use Rattle.sampler_event.specs.declared.Record.{Record}
use Rattle.sampler_event.specs.Events.{blank_event}
use Rattle.sampler_event.specs.Record.{little, as_i64}
use Rattle.event_processor.specs.declared.Queue.{Queue}
use Rattle.sampler_voice.specs.declared.Phase.{Phase}
use Rattle.sampler_voice.specs.declared.Phase.TheVariants.{Stopped, FadingIn, Playing, FadingOut}
use Rattle.sampler_voice.specs.declared.Voice.{Voice}
use Rattle.sampler_voice.specs.Voices.{silent}
use Rattle.sampler_player.specs.declared.Points.{Points}
use Rattle.sampler_player.specs.declared.Points.TheVariants.{Absent, Between}
use Rattle.sampler_player.specs.declared.Setup.{Setup}
use Rattle.sampler_processor.specs.declared.Leg.{Leg}
use Rattle.words.specs.Digits.{bytes_of}
use Rattle.words.proofs.Digits.{little_bytes}
use Rattle.leg_bytes.specs.Write.{bits_of, i64, phase_number, fade_position, active_number, loop_number, loop_start, loop_end, zero_time, record_of, zero_record, place_of, record_bytes, places_bytes, leg_bytes}
use Rattle.sampler_voice.specs.Voices.{numbered}
use Rattle.leg_bytes.specs.Read.{number_at, time_at, setup_at, phase_good, voice_at, active_of, points_at, kind_of, kind_good, event_at, blank_at, place_at, events_at, places_good, player_at, queue_at, read_leg, VoiceRead, PointsRead, PlayerRead, EventRead, QueueRead, LegRead}
use Rattle.leg_bytes.specs.Fitting.{Time, VoiceFits, ActiveFits, Fitting}
use Rattle.leg_bytes.proofs.Stores.{length_places}

-- ---- numbers and times

field : (s : List ℕ) (at n u : ℕ) → take n (drop at s) ≡ bytes_of n u → u < 256 ^ n → number_at s at n ≡ u
field s at n u e h = ap little e ∙ little_bytes n u h

-- a signed number's bits, and the number of them
bits_fit : (z : ℤ) → SFits w64 z → bits_of z < 256 ^ 8
bits_fit (pos n) f = let h = f.sfits in omega arith
bits_fit (negsuc n) f = let h = f.sfits in omega arith

signed : (z : ℤ) → SFits w64 z → as_i64 (bits_of z) ≡ z
signed (pos n) f = rw (lt-ltb n (2 ^ 63) f.sfits) refl
signed (negsuc n) f =
    let h = f.sfits in
    let l : 2 ^ 63 ≤ 2 ^ 64 - suc n = omega arith in
    let e : 2 ^ 64 - suc (2 ^ 64 - suc n) ≡ n = omega arith in
    rw (le-ltb (2 ^ 64 - suc n) (2 ^ 63) l) (ap negsuc e)

bits_there : (s : List ℕ) (at : ℕ) (t : Timestamp) → take 8 (drop at s) ≡ i64 t → Time t → number_at s at 8 ≡ bits_of t.bits
bits_there s at t e f = field s at 8 (bits_of t.bits) e (bits_fit t.bits f)

time_there : (s : List ℕ) (at : ℕ) (t : Timestamp) → take 8 (drop at s) ≡ i64 t → Time t → time_at s at ≡ t
time_there s at t e f = ap (λ (z : ℤ). record { bits = z }) (ap as_i64 (bits_there s at t e f) ∙ signed t.bits f)

-- ---- phases, the active voice, points

phase_back : (p : Phase) → numbered (phase_number p) (fade_position p) ≡ p
phase_back Stopped = refl
phase_back (FadingIn i) = refl
phase_back Playing = refl
phase_back (FadingOut i) = refl

phase_good_lem : (p : Phase) → phase_good (phase_number p) (fade_position p) ≡ true
phase_good_lem Stopped = refl
phase_good_lem (FadingIn i) = refl
phase_good_lem Playing = refl
phase_good_lem (FadingOut i) = refl

phase_below : (p : Phase) → phase_number p < 256 ^ 1
phase_below Stopped = lit< tt
phase_below (FadingIn i) = lit< tt
phase_below Playing = lit< tt
phase_below (FadingOut i) = lit< tt

active_back : (a : Option ℕ) → ActiveFits a → active_of (active_number a) ≡ a
active_back None h = refl
active_back (Some i) h =
    let e : (i + 1) % 2 ^ 64 ≡ i + 1 = omega arith in
    let m : i + 1 - 1 ≡ i = omega arith in
    rw (e, ne_eqb (i + 1) 0 (λ z. omega (arith, z))) (ap Some m)

active_below : (a : Option ℕ) → ActiveFits a → active_number a < 3
active_below None h = lit< tt
active_below (Some i) h = omega arith

-- ---- the places of the queue

-- the places from i on begin with the place i
rest : (q : Queue) (i n : ℕ) → i < n → (r : List ℕ) × (drop (25 * i) (places_bytes q n) ≡ record_bytes (place_of q i) ++ r)
rest q i zero h = absurd (none h)
  where
    none : i < 0 → ⊥
    none h = omega arith
rest q i (suc n) h = elim (eq-or-lt_of_le h) [
  | inl e ↦
      let z : i ≡ n = omega (arith, e) in
      ([], rw z (drop_at (places_bytes q n) (record_bytes (place_of q n)) (25 * n) (length_places q n)))
  | inr l ↦
      let m : i < n = omega (arith, l) in
      let k : 25 * i ≤ length (places_bytes q n) = rw (length_places q n) (omega (arith, m)) in
      let r = rest q i n m in
      (r.0 ++ record_bytes (place_of q n), drop-append-le (25 * i) (places_bytes q n) (record_bytes (place_of q n)) k ∙ ap (λ (x : List ℕ). x ++ record_bytes (place_of q n)) r.1)
]

-- an event from its record
abbrev made : ℕ → ℕ → ℕ → Timestamp → Timestamp → Timestamp → EventRead
made k a b t x y = record { good = kind_good k a b; event = record { time = t; kind = kind_of k x y } }

made_same : {k l a c b d : ℕ} {t u x v y w : Timestamp} → k ≡ l → a ≡ c → b ≡ d → t ≡ u → x ≡ v → y ≡ w → made k a b t x y ≡ made l c d u v w
made_same e f g h i j = rw (e, f, g, h, i, j) refl

made_back : (t : Timestamp) (k : Kind) → let w = record_of t k in made w.kind (bits_of w.first.bits) (bits_of w.second.bits) w.time w.first w.second ≡ record { good = true; event = record { time = t; kind = k } }
made_back t (Start p) = refl
made_back t StartImmediate = refl
made_back t Stop = refl
made_back t (EnableLoop a b) = refl
made_back t CancelLoop = refl
made_back t CancelAll = refl

kind_below : (t : Timestamp) (k : Kind) → (record_of t k).kind < 256 ^ 1
kind_below t (Start p) = lit< tt
kind_below t StartImmediate = lit< tt
kind_below t Stop = lit< tt
kind_below t (EnableLoop a b) = lit< tt
kind_below t CancelLoop = lit< tt
kind_below t CancelAll = lit< tt

-- the bytes of a record, from `at` on
abbrev Placed : List ℕ → ℕ → Record → Type 0
Placed s at w = (r : List ℕ) × (drop at s ≡ record_bytes w ++ r)

abbrev TimesFit : Record → Type 0
TimesFit w = Time w.time × (Time w.first × Time w.second)

module _ (s : List ℕ) (at : ℕ) (w : Record) (p : Placed s at w) (k : w.kind < 256 ^ 1) (f : TimesFit w) where
  further : (j n : ℕ) → take n (drop (at + j) s) ≡ take n (drop j (record_bytes w ++ p.0))
  further j n = ap (λ (x : List ℕ). take n x) (sym (drop-drop j at s) ∙ ap (λ (x : List ℕ). drop j x) p.1)

  kind_there : number_at s at 1 ≡ w.kind
  kind_there = field s at 1 w.kind (ap (λ (x : List ℕ). take 1 x) p.1) k

  time_at_lem : time_at s (at + 1) ≡ w.time
  time_at_lem = time_there s (at + 1) w.time (further 1 8) f.0

  first_at : time_at s (at + 9) ≡ w.first
  first_at = time_there s (at + 9) w.first (further 9 8) f.1.0

  second_at : time_at s (at + 17) ≡ w.second
  second_at = time_there s (at + 17) w.second (further 17 8) f.1.1

  time_bits : number_at s (at + 1) 8 ≡ bits_of w.time.bits
  time_bits = bits_there s (at + 1) w.time (further 1 8) f.0

  first_bits : number_at s (at + 9) 8 ≡ bits_of w.first.bits
  first_bits = bits_there s (at + 9) w.first (further 9 8) f.1.0

  second_bits : number_at s (at + 17) 8 ≡ bits_of w.second.bits
  second_bits = bits_there s (at + 17) w.second (further 17 8) f.1.1

-- a place below the count
used_back : (s : List ℕ) (at : ℕ) (t : Timestamp) (k : Kind) → Placed s at (record_of t k) → TimesFit (record_of t k) → event_at s at ≡ record { good = true; event = record { time = t; kind = k } }
used_back s at t k p f =
    let w = record_of t k in
    let b = kind_below t k in
    made_same (kind_there s at w p b f) (first_bits s at w p b f) (second_bits s at w p b f) (time_at_lem s at w p b f) (first_at s at w p b f) (second_at s at w p b f)
    ∙ made_back t k

-- a place past it
blank_back : (s : List ℕ) (at : ℕ) → Placed s at zero_record → TimesFit zero_record → blank_at s at ≡ record { good = true; event = blank_event }
blank_back s at p f =
    let b : 0 < 256 ^ 1 = lit< tt in
    rw (kind_there s at zero_record p b f, time_bits s at zero_record p b f, first_bits s at zero_record p b f, second_bits s at zero_record p b f) refl

-- ---- the places together

events_length : (s : List ℕ) (n : ℕ) → length (events_at s n) ≡ 16
events_length s zero = refl
events_length s (suc n) = length-set (events_at s n) n (place_at s n).event ∙ events_length s n

events_upto : (s : List ℕ) (n j : ℕ) → n ≤ 16 → j < n → get_or (events_at s n) j blank_event ≡ (place_at s j).event
events_upto s zero j h k = absurd (none k)
  where
    none : j < 0 → ⊥
    none k = omega arith
events_upto s (suc n) j h k = elim (eq-or-lt_of_le k) [
  | inl e ↦
      let z : j ≡ n = omega (arith, e) in
      let b : n < length (events_at s n) = rw (events_length s n) (omega (arith, h)) in
      rw z (get_or-set_same (events_at s n) n (place_at s n).event blank_event b)
  | inr g ↦
      get_or-set_other (events_at s n) n j (place_at s n).event blank_event (λ z. omega (arith, g, z)) ∙ events_upto s n j (omega (arith, h)) (omega (arith, g))
]

queued_same : {g h : Bool} {xs ys : List Event} {n m : ℕ} → g ≡ h → xs ≡ ys → n ≡ m
    → ◌≡◌ {A = QueueRead} (record { good = g; queue = record { events = xs; count = n } }) (record { good = h; queue = record { events = ys; count = m } })
queued_same e f g = rw (e, f, g) refl

module _ (l : Leg) (f : Fitting l) where
  place_there : (i : ℕ) → i < 16 → Placed (leg_bytes l) (90 + 25 * i) (place_of l.queue i)
  unfolding leg_bytes
  place_there i h = let r = rest l.queue i 16 h in (r.0, sym (drop-drop (25 * i) 90 (leg_bytes l)) ∙ r.1)

  count_there : number_at (leg_bytes l) 89 1 ≡ l.queue.count
  unfolding leg_bytes
  count_there = field (leg_bytes l) 89 1 l.queue.count refl f.count

  place_back : (i : ℕ) → i < 16 → place_at (leg_bytes l) i ≡ record { good = true; event = get_or l.queue.events i blank_event }
  place_back i h = go (ltb i l.queue.count) refl
    where
      go : (t : Bool) → ltb i l.queue.count ≡ t → place_at (leg_bytes l) i ≡ record { good = true; event = get_or l.queue.events i blank_event }
      go true w =
          let p = rw w at (place_there i h) in
          let t = rw w at (f.times i h) in
          rw (count_there, w) (used_back (leg_bytes l) (90 + 25 * i) (get_or l.queue.events i blank_event).time (get_or l.queue.events i blank_event).kind p t)
      go false w =
          let p = rw w at (place_there i h) in
          let t = rw w at (f.times i h) in
          rw (count_there, w, f.blank i (ltb-false i l.queue.count w) h) (blank_back (leg_bytes l) (90 + 25 * i) p t)

  good_upto : (n : ℕ) → n ≤ 16 → places_good (leg_bytes l) n ≡ true
  good_upto zero h = refl
  good_upto (suc n) h = rw (good_upto n (omega arith), place_back n h) refl

  events_back : events_at (leg_bytes l) 16 ≡ l.queue.events
  events_back =
      ext_get_or blank_event (events_at (leg_bytes l) 16) l.queue.events (events_length (leg_bytes l) 16 ∙ sym f.sixteen)
      (λ i h. let b : i < 16 = rw (events_length (leg_bytes l) 16) at h in events_upto (leg_bytes l) 16 i (le_refl 16) b ∙ ap (λ (r : EventRead). r.event) (place_back i b))

  queue_back : queue_at (leg_bytes l) ≡ record { good = true; queue = l.queue }
  unfolding queue_at
  queue_back = queued_same (good_upto 16 (le_refl 16)) events_back count_there

-- ---- what plays

voice_back : (s : List ℕ) (at : ℕ) (v : Voice) → take 1 (drop at s) ≡ bytes_of 1 (phase_number v.phase) → take 8 (drop (at + 1) s) ≡ bytes_of 8 (fade_position v.phase)
    → take 8 (drop (at + 9) s) ≡ bytes_of 8 v.position → VoiceFits v → voice_at s at ≡ record { good = true; voice = v }
voice_back s at v k p q f =
    rw
    (field s at 1 (phase_number v.phase) k (phase_below v.phase), field s (at + 1) 8 (fade_position v.phase) p f.0, field s (at + 9) 8 v.position q f.1, phase_good_lem v.phase, phase_back v.phase)
    refl

points_back : (s : List ℕ) (p : Points) → number_at s 48 1 ≡ loop_number p → take 8 (drop 49 s) ≡ i64 (loop_start p) → take 8 (drop 57 s) ≡ i64 (loop_end p) → Time (loop_start p) → Time (loop_end p)
    → points_at s 48 ≡ record { good = true; points = p }
points_back s Absent n a b f g = rw (n, bits_there s 49 zero_time a f, bits_there s 57 zero_time b g) refl
points_back s (Between x y) n a b f g = rw (n, time_there s 49 x a f, time_there s 57 y b g) refl

loop_below : (p : Points) → loop_number p < 256 ^ 1
loop_below Absent = lit< tt
loop_below (Between a b) = lit< tt

two_list : (vs : List Voice) → length vs ≡ 2 → get_or vs 0 silent ∷ get_or vs 1 silent ∷ [] ≡ vs
two_list [] e = absurd (suc-ne-zero 1 (sym e))
two_list (a ∷ []) e = absurd (suc-ne-zero 0 (sym (suc_inj e)))
two_list (a ∷ b ∷ []) e = refl
two_list (a ∷ b ∷ d ∷ vs) e = absurd (suc-ne-zero (length vs) (suc_inj (suc_inj e)))

-- the player and the leg of what is read
abbrev played : VoiceRead → VoiceRead → ℕ → PointsRead → Timestamp → Timestamp → ℕ → PlayerRead
played a b n l p q c =
    record {
      good = a.good && (b.good && (ltb n 3 && l.good));
      player = record { voices = a.voice ∷ b.voice ∷ []; active = active_of n; points = l.points; position = p; start = q; completed = c };
    }

played_same : {a d b e : VoiceRead} {n m : ℕ} {l k : PointsRead} {p r q t : Timestamp} {c u : ℕ} → a ≡ d → b ≡ e → n ≡ m → l ≡ k → p ≡ r → q ≡ t → c ≡ u
    → played a b n l p q c ≡ played d e m k r t u
played_same f g h i j o w = rw (f, g, h, i, j, o, w) refl

abbrev legged : ℕ → Setup → PlayerRead → QueueRead → LegRead
legged n s p q = record { good = eqb n 490 && (p.good && q.good); leg = record { setup = s; player = p.player; queue = q.queue } }

legged_same : {n m : ℕ} {s t : Setup} {p r : PlayerRead} {q u : QueueRead} → n ≡ m → s ≡ t → p ≡ r → q ≡ u → legged n s p q ≡ legged m t r u
legged_same e f g h = rw (e, f, g, h) refl

module _ (l : Leg) (f : Fitting l) where
  abbrev v : ℕ → Voice
  v i = get_or l.player.voices i silent

  first_back : voice_at (leg_bytes l) 13 ≡ record { good = true; voice = v 0 }
  unfolding leg_bytes
  first_back = voice_back (leg_bytes l) 13 (v 0) refl refl refl f.first

  second_back : voice_at (leg_bytes l) 30 ≡ record { good = true; voice = v 1 }
  unfolding leg_bytes
  second_back = voice_back (leg_bytes l) 30 (v 1) refl refl refl f.second

  active_there : number_at (leg_bytes l) 47 1 ≡ active_number l.player.active
  unfolding leg_bytes
  active_there = field (leg_bytes l) 47 1 (active_number l.player.active) refl (let b = active_below l.player.active f.active in omega arith)

  points_there : points_at (leg_bytes l) 48 ≡ record { good = true; points = l.player.points }
  unfolding leg_bytes
  points_there =
      points_back (leg_bytes l) l.player.points (field (leg_bytes l) 48 1 (loop_number l.player.points) refl (loop_below l.player.points)) refl refl f.from f.end

  position_there : time_at (leg_bytes l) 65 ≡ l.player.position
  unfolding leg_bytes
  position_there = time_there (leg_bytes l) 65 l.player.position refl f.position

  start_there : time_at (leg_bytes l) 73 ≡ l.player.start
  unfolding leg_bytes
  start_there = time_there (leg_bytes l) 73 l.player.start refl f.start

  completed_there : number_at (leg_bytes l) 81 8 ≡ l.player.completed
  unfolding leg_bytes
  completed_there = field (leg_bytes l) 81 8 l.player.completed refl f.completed

  player_back : player_at (leg_bytes l) ≡ record { good = true; player = l.player }
  unfolding player_at
  player_back =
      let a = l.player.active in
      played_same first_back second_back active_there points_there position_there start_there completed_there
      ∙ rw (active_back a f.active, lt-ltb (active_number a) 3 (active_below a f.active), two_list l.player.voices f.two) refl

  setup_back : setup_at (leg_bytes l) ≡ l.setup
  unfolding leg_bytes
  setup_back =
      let s = l.setup in
      rw
      (little_bytes 4 s.rate f.rate, little_bytes 1 s.channels f.channels, little_bytes 4 s.frames f.frames, little_bytes 4 s.fade f.fade)
      refl

  whole_length : length (leg_bytes l) ≡ 490
  unfolding leg_bytes
  whole_length = refl

  -- the law: reading what was written gives the leg back, and the bytes are well formed
  pub read_back : read_leg (leg_bytes l) ≡ record { good = true; leg = l }
  unfolding read_leg
  read_back = legged_same whole_length setup_back player_back (queue_back l f)
