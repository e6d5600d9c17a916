-- What was read stays what was read.
use Rattle.std.proofs.Common.{ℕ, ◌≡◌, ◌≢◌, ◌<◌, ◌≤◌, ◌+◌, Bool, true, false, cond, ◌==◌, IsTrue, List, [], ◌∷◌, ◌++◌, length, take, get_or, Some, None, refl, sym, ap, subst, ◌∙◌, arith, add-one}
use Rattle.std.specs.List.{zip}
use Rattle.std.proofs.Math.Seq.{take-suc}
use Rattle.std.proofs.lemmas.Bool.{false≢true, and_from, eq-eqb}
use Rattle.std.proofs.lemmas.List.{length-take-le}
use Rattle.std.proofs.lemmas.List.Elements.{All-nil, All-cons, All-head, All-tail, All-append, All-weaker}
use mathlib.Core.List.{IsPrefix}
use Rattle.journal_world.specs.declared.address.Addr.{Addr}
use Rattle.journal_world.specs.Addresses.{Value, is_same, Shape}
use Rattle.journal_world.specs.Maps.{Map, Pair, SamePairs, Agrees, value_among, value_at}
use Rattle.journal_world.specs.Histories.{Entry, is_trusted, latest}
use Rattle.journal_world.proofs.Lookups.{same_addr}
use Rattle.journal_world.proofs.MapsOfHistories.{is_trusted-append}
use Rattle.journal_twophase.specs.Transactions.{TxnState, holding, Learns}
use Rattle.journal_port.specs.Reads.{AreRead, KeepsReads}

-- ---- the opening, in a longer history

pub trusted_later : (front history : List Entry) → IsPrefix front history → IsTrue (is_trusted front) → IsTrue (is_trusted history)
trusted_later [] history p trusted = absurd (false≢true trusted)
trusted_later (e ∷ es) history p trusted = subst (λ (h : List Entry). IsTrue (is_trusted h)) p.1 trusted

pub trusted_before : (front history : List Entry) → front ≢ [] → IsPrefix front history → IsTrue (is_trusted history) → IsTrue (is_trusted front)
trusted_before front history begun p trusted = sym (is_trusted-append front p.0 begun) ∙ ap is_trusted p.1 ∙ trusted

-- ---- one read more

same_itself : (a : Addr) → is_same a a ≡ true
same_itself a = and_from (a.block == a.block) (a.off == a.off) (eq-eqb a.block a.block refl) (eq-eqb a.off a.off refl)

pub agrees_at : (m : Map) (rs : List Pair) (a : Addr) (v : Value) → Agrees m rs → value_among rs a ≡ Some v → value_at m a ≡ v
agrees_at m [] a v all found = absurd (let e : None ≡ Some v = found in cc)
agrees_at m (r ∷ rs) a v all found = by_test (is_same a r.0) refl (agrees_at m rs a v (All-tail (λ p. value_at m p.0 ≡ p.1) r rs all)) found
  where
    by_test : (b : Bool) → is_same a r.0 ≡ b → (value_among rs a ≡ Some v → value_at m a ≡ v) → cond b (Some r.1) (value_among rs a) ≡ Some v → value_at m a ≡ v
    by_test true same rest found =
        let one : value_at m r.0 ≡ r.1 = All-head (λ p. value_at m p.0 ≡ p.1) r rs all in
        let value : r.1 ≡ v = cc found in
        ap (value_at m) (same_addr a r.0 same) ∙ one ∙ value
    by_test false same rest found = rest found

pub read_now : (old new : List Pair) (a : Addr) (v : Value) → SamePairs new ((a, v) ∷ old) → value_among new a ≡ Some v
read_now old new a v same = same a ∙ ap (λ b. cond b (Some v) (value_among old a)) (same_itself a)

-- where one map gives all that was read before and after, no address was read with two values
pub keeps_one : (m : Map) (old new : List Pair) (a : Addr) (v : Value) → Agrees m old → Agrees m new → SamePairs new ((a, v) ∷ old) → KeepsReads old new
keeps_one m old new a v before after same b w found = by_test (is_same b a) refl
  where
    by_test : (test : Bool) → is_same b a ≡ test → value_among new b ≡ Some w
    by_test true is =
        let now : value_among new b ≡ Some v = same b ∙ ap (λ t. cond t (Some v) (value_among old b)) is in
        let one : v ≡ w = sym (agrees_at m new b v after now) ∙ agrees_at m old b w before found in
        now ∙ ap (λ x. Some x) one
    by_test false is = same b ∙ ap (λ t. cond t (Some v) (value_among old b)) is ∙ found

-- the same, of an open transaction that reads an address
pub kept_reads : (layout : Shape) (old new : TxnState) (a : Addr) (v : Value) → Learns (holding layout old a) a v new → (IsTrue (is_trusted new.seen) → Agrees (latest new.seen) old.reads)
    → (IsTrue (is_trusted new.seen) → Agrees (latest new.seen) new.reads) → IsTrue (is_trusted old.seen) → KeepsReads old.reads new.reads
kept_reads layout old new a v learns before after trusted =
    let still : IsTrue (is_trusted new.seen) = trusted_later old.seen new.seen learns.later trusted in
    keeps_one (latest new.seen) old.reads new.reads a v (before still) (after still) learns.reads

-- ---- the values of a request to read

pub read_agrees : (m : Map) (reads pairs : List Pair) → Agrees m reads → AreRead reads pairs → Agrees m pairs
read_agrees m reads pairs agrees are =
    All-weaker (λ p. value_among reads p.0 ≡ Some p.1) (λ p. value_at m p.0 ≡ p.1) (λ p found. agrees_at m reads p.0 p.1 agrees found) pairs are

zip_push : (addrs : List Addr) (values : List Value) (a : Addr) (v : Value) → length values ≡ length addrs → zip (addrs ++ a ∷ []) (values ++ v ∷ []) ≡ zip addrs values ++ (a, v) ∷ []
zip_push [] [] a v same = refl
zip_push [] (y ∷ ys) a v same = absurd (omega (arith, same))
zip_push (x ∷ xs) [] a v same = absurd (omega (arith, same))
zip_push (x ∷ xs) (y ∷ ys) a v same = ap (λ ps. (x, y) ∷ ps) (zip_push xs ys a v (omega (arith, same)))

pub read_next : (addrs : List Addr) (values : List Value) (i : ℕ) (a : Addr) (v : Value) (middle new : List Pair) → i < length addrs → a ≡ get_or addrs i a → length values ≡ i
    → AreRead middle (zip (take i addrs) values) → KeepsReads middle new → SamePairs new ((a, v) ∷ middle) → AreRead new (zip (take (i + 1) addrs) (values ++ v ∷ []))
read_next addrs values i a v middle new low is counted before keeps one =
    subst (AreRead new) (sym pushed)
    (All-append now (zip (take i addrs) values) ((a, v) ∷ []) (All-weaker (λ p. value_among middle p.0 ≡ Some p.1) now (λ p found. keeps p.0 p.1 found) (zip (take i addrs) values) before)
    (All-cons now (a, v) [] (read_now middle new a v one) (All-nil now)))
  where
    now : Pair → Type 0
    now p = value_among new p.0 ≡ Some p.1

    pushed : zip (take (i + 1) addrs) (values ++ v ∷ []) ≡ zip (take i addrs) values ++ (a, v) ∷ []
    pushed =
        ap (λ l. zip l (values ++ v ∷ [])) (ap (λ j. take j addrs) (add-one i) ∙ take-suc addrs i a low ∙ ap (λ y. take i addrs ++ y ∷ []) (sym is))
        ∙ zip_push (take i addrs) values a v (counted ∙ sym (length-take-le i addrs (let le : i ≤ length addrs = omega (arith, low) in le)))
