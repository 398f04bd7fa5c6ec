-- `event_processor::Queue::place` meets its contract: where `insert` puts the event.
-- The idea: the search is over the events that wait, and stops at the first that is later. Assumes nothing.
use Prim.Native.Nat.{◌≤◌}
use mathlib.Core.Path.{◌≡◌, ◌∙◌}
use native.Mathlib.Omega.{arith}
use borrow.Author.Rules.{rules}
use borrow.Author.Tests.{tests}
use lib.ListN.{length}
use lib.Seq.{length-take-le}
use Rattle.std.specs.List.{position, position_or_len}
use Rattle.std.proofs.lemmas.Iterator.{YieldsList-from_slice}
use Rattle.std.proofs.lemmas.Iterator.Search.{position_from_yields_List}
use Rattle.std.proofs.lemmas.List.Sums.{prefix_len-le-length}
use Rattle.event_processor.specs.Queue.{pending}
use Rattle.event_processor.proofs.Insert.{later, insert_at, first_or}
use Rattle.event_processor.proofs.Queue.place.Goals as goal

pub returns : goal.returns
returns c =
    let q = c.args.self in
    let e = c.args.event in
    let n : q.count ≤ length q.events = omega arith in
    let l : length (pending q) ≡ q.count = length-take-le q.count q.events n in
    let found : c.position.result ≡ position (later e) (pending q) =
    position_from_yields_List (later e) _ _ _ c.position.ensures.ran (YieldsList-from_slice (pending q) cc) (λ x b q k. search (rules, tests)) in
    let k : c.unwrap_or.result ≡ position_or_len (later e) (pending q) =
    c.unwrap_or.ensures ∙ rw found (first_or (later e) (pending q) q.count l) in
    let m : position_or_len (later e) (pending q) ≤ length (pending q) = prefix_len-le-length _ (pending q) in
    record { bound = omega arith; value = rw k (insert_at e (pending q)) }
