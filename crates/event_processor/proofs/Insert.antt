-- Where `insert` puts an event, and what it keeps: the length, the order, and what holds of each event.
-- The idea: at each event either the search ends and the rest is as it was, or the event is passed and the same holds of the rest. Assumes nothing.
use Prim.Native.Nat.{ℕ, suc, ◌+◌, ◌≤◌, ◌<◌}
use mathlib.Core.Path.{◌≡◌, refl, ap, sym, ◌∙◌}
use mathlib.Core.Bool.{Bool, true, false, ◌&&◌, not, cond, and_assoc, and_comm, and-eq-true_iff}
use mathlib.Core.List.{List, [], ◌∷◌, ◌++◌}
use native.Mathlib.Omega.{arith}
use native.Mathlib.Numerals.{add-one, one-add}
use borrow.Author.Tests.{ltb-false}
use lib.IntN.{ℤ}
use lib.ListN.{length, take, drop, get_or}
use lib.Seq.{get_or-take, take-suc, length-take-le, append_snoc}
use lib.Signed.{lt_z, le_z}
use Rattle.std.specs.Prelude.{Some, None, unwrap_or, ltb}
use Rattle.std.specs.List.{position, position_or_len}
use Rattle.std.proofs.lemmas.Int.{ints}
use Rattle.std.proofs.lemmas.List.Sums.{prefix_len-le-length}
use Rattle.sampler_event.specs.Events.{is_cancel_all}
use Rattle.sampler_event.specs.declared.Event.{Event}
use Rattle.event_processor.specs.Queue.{insert, enter, in_order_from, in_order, each}
use Rattle.event_processor.proofs.Moves.{rest_at}

-- ---- the place: before the first that is later, or at the end

abbrev pub later : Event → Event → Bool
later e other = lt_z e.time.bits other.time.bits

pub insert_at : (e : Event) (l : List Event) → insert e l ≡ take (position_or_len (later e) l) l ++ e ∷ drop (position_or_len (later e) l) l
insert_at e [] = refl
insert_at e (x ∷ xs) = turn (lt_z e.time.bits x.time.bits) (insert_at e xs)
  where
    k : ℕ
    k = position_or_len (later e) xs

    turn : (b : Bool) → insert e xs ≡ take k xs ++ e ∷ drop k xs → cond b (e ∷ x ∷ xs) (x ∷ insert e xs) ≡ take (cond (not b) (1 + k) 0) (x ∷ xs) ++ e ∷ drop (cond (not b) (1 + k) 0) (x ∷ xs)
    turn true n = refl
    turn false n = rw (one-add k) (ap (λ (l : List Event). x ∷ l) n)

-- step by step, among the first n of an array
module _ (e : Event) (es : List Event) (n i : ℕ) (m : n ≤ length es) where
  -- an event that is not later is passed
  pub insert_past : (z : Event) → i < n → lt_z e.time.bits (get_or es i z).time.bits ≡ false
      → take i (take n es) ++ insert e (drop i (take n es)) ≡ take (i + 1) (take n es) ++ insert e (drop (i + 1) (take n es))
  insert_past z h t =
      let l = length-take-le n es m in
      rw (add-one i, rest_at es n i z h m, t, take-suc (take n es) i z (omega arith), get_or-take n es i z h, append_snoc) refl

  -- before the first later one
  pub insert_found : (z : Event) → i < n → lt_z e.time.bits (get_or es i z).time.bits ≡ true → insert e (drop i (take n es)) ≡ e ∷ drop i (take n es)
  insert_found z h t = rw (rest_at es n i z h m, t) refl

-- as the search answers it
pub first_or : {X : Type 0} (p : X → Bool) (xs : List X) (n : ℕ) → length xs ≡ n → unwrap_or (position p xs) n ≡ position_or_len p xs
first_or p xs n l = go (ltb (position_or_len p xs) (length xs)) (ltb-false (position_or_len p xs) (length xs))
  where
    go : (b : Bool) → (b ≡ false → length xs ≤ position_or_len p xs) → unwrap_or (cond b (Some (position_or_len p xs)) None) n ≡ position_or_len p xs
    go true h = refl
    go false h = let m = h refl in let k = prefix_len-le-length (λ x. not (p x)) xs in omega arith

-- ---- what it keeps

pub insert_length : (e : Event) (l : List Event) → length (insert e l) ≡ suc (length l)
insert_length e [] = refl
insert_length e (x ∷ xs) = turn (lt_z e.time.bits x.time.bits) (insert_length e xs)
  where
    turn : (b : Bool) → length (insert e xs) ≡ suc (length xs) → length (cond b (e ∷ x ∷ xs) (x ∷ insert e xs)) ≡ suc (suc (length xs))
    turn true n = refl
    turn false n = ap suc n

-- of the new list P holds throughout exactly when it holds of the event and throughout the old one
pub insert_each : (P : Event → Bool) (e : Event) (l : List Event) → each P (insert e l) ≡ (P e && each P l)
insert_each P e [] = refl
insert_each P e (x ∷ xs) = turn (lt_z e.time.bits x.time.bits) (insert_each P e xs)
  where
    turn : (b : Bool) → each P (insert e xs) ≡ (P e && each P xs) → each P (cond b (e ∷ x ∷ xs) (x ∷ insert e xs)) ≡ (P e && (P x && each P xs))
    turn true n = refl
    turn false n =
        ap (λ (b : Bool). P x && b) n
        ∙ sym (and_assoc (P x) (P e) (each P xs))
        ∙ ap (λ (b : Bool). b && each P xs) (and_comm (P x) (P e))
        ∙ and_assoc (P e) (P x) (each P xs)

before : (a b : ℤ) → lt_z a b ≡ true → le_z a b ≡ true
before a b t = grind (arith, ints)

not_before : (a b : ℤ) → lt_z a b ≡ false → le_z b a ≡ true
not_before a b t = grind (arith, ints)

pub insert_from : (t : ℤ) (e : Event) (l : List Event) → le_z t e.time.bits ≡ true → in_order_from t l ≡ true → in_order_from t (insert e l) ≡ true
insert_from t e [] k h = rw k refl
insert_from t e (x ∷ xs) k h = turn (lt_z e.time.bits x.time.bits) refl (λ later. insert_from x.time.bits e xs later parts.1)
  where
    parts : (le_z t x.time.bits ≡ true) × (in_order_from x.time.bits xs ≡ true)
    parts = (and-eq-true_iff (le_z t x.time.bits) (in_order_from x.time.bits xs)).0 h

    turn : (b : Bool) → lt_z e.time.bits x.time.bits ≡ b → (le_z x.time.bits e.time.bits ≡ true → in_order_from x.time.bits (insert e xs) ≡ true)
        → in_order_from t (cond b (e ∷ x ∷ xs) (x ∷ insert e xs)) ≡ true
    turn true w n = rw (k, before e.time.bits x.time.bits w, parts.1) refl
    turn false w n = rw (parts.0, n (not_before e.time.bits x.time.bits w)) refl

pub insert_order : (e : Event) (l : List Event) → in_order l ≡ true → in_order (insert e l) ≡ true
insert_order e [] h = refl
insert_order e (x ∷ xs) h = turn (lt_z e.time.bits x.time.bits) refl
  where
    turn : (b : Bool) → lt_z e.time.bits x.time.bits ≡ b → in_order (cond b (e ∷ x ∷ xs) (x ∷ insert e xs)) ≡ true
    turn true w = rw (before e.time.bits x.time.bits w, h) refl
    turn false w = insert_from x.time.bits e xs (not_before e.time.bits x.time.bits w) h

-- ---- and `enter`, which inserts into the list or into none

pub enter_length : (e : Event) (l : List Event) → length (enter e l) ≡ cond (is_cancel_all e.kind) 1 (suc (length l))
enter_length e l = insert_length e (cond (is_cancel_all e.kind) [] l) ∙ go (is_cancel_all e.kind)
  where
    go : (b : Bool) → suc (length (cond b [] l)) ≡ cond b 1 (suc (length l))
    go true = refl
    go false = refl

pub enter_order : (e : Event) (l : List Event) → in_order l ≡ true → in_order (enter e l) ≡ true
enter_order e l h = insert_order e (cond (is_cancel_all e.kind) [] l) (go (is_cancel_all e.kind))
  where
    go : (b : Bool) → in_order (cond b [] l) ≡ true
    go true = refl
    go false = h

pub enter_each : (P : Event → Bool) (e : Event) (l : List Event) → P e ≡ true → each P l ≡ true → each P (enter e l) ≡ true
enter_each P e l p h = insert_each P e (cond (is_cancel_all e.kind) [] l) ∙ rw (p, go (is_cancel_all e.kind)) refl
  where
    go : (b : Bool) → each P (cond b [] l) ≡ true
    go true = refl
    go false = h
