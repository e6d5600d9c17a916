-- What was seen before some replies is seen after them, with its marks.
use Rattle.std.specs.Prelude.{slice_get, take}
use Rattle.std.proofs.lemmas.Option.{slice_get_within, slice_get_past}
use Rattle.std.proofs.Common.{◌≡◌, ℕ, zero, suc, ◌+◌, ◌≤◌, IsTrue, List, [], ◌∷◌, ◌++◌, Option, Some, None, Result, Ok, Err, sym, ap, subst, ◌∙◌, arith}
use Rattle.std.proofs.lemmas.List.{take-append-le}
use mathlib.Core.List.{IsPrefix}
use Rattle.journal_world.specs.Histories.{Entry, commits_of, count, floor}
use Rattle.journal_world.specs.Histories.Entry.{commit}
use Rattle.journal_history.specs.Tokens.{SessionState, OnlyExtends}
use Rattle.journal_inode.specs.declared.version.FormatVersion.{FormatVersion}
use Rattle.journal_inode.specs.declared.node.Time.{Time}
use Rattle.journal_rpc.specs.declared.replies.CallRefused.{CallRefused}
use Rattle.journal_rpc.specs.Calls.{Message, message}
use Rattle.journal_nfs3_wire.specs.Arguments.{Operation}
use Rattle.journal_nfs3_wire.specs.Results.{Results}
use Rattle.journal_nfs3_wire.specs.Calls.{asks}
use Rattle.journal_nfs3.specs.Served.{marked, has_to_wait, is_accepted, CommitsOnceAt, IsMarked}
use Rattle.journal_nfs3.specs.Answers.{ServesCall}
use Rattle.journal_nfs3.proofs.Marked.{HasMarked, serves_marked_in}
use Rattle.journal_server.specs.NineLaws.{call_grows}
use Rattle.journal_protocol.specs.Output.{IsRepliedUnlessBad, RepliesUpToBad}
use Rattle.journal_protocol.specs.Grows.{Grows, grows-same, grows-trans}
use Rattle.journal_server.specs.Output.{IsReply}
use Rattle.journal_protocol.proofs.Staying.{floor_grows}

module _ (version : FormatVersion) (tells : Time → Type 0) (verifier : List ℕ) (history : List Entry) where
  reply_grows : (call : Message) (old new : SessionState) (text : List ℕ) → IsReply version tells verifier history call old new text → Grows old new
  reply_grows call old new text h = grows-trans old h.done new (call_grows version (marked history) verifier h.moment (asks call.asked) old h.done h.answers.outcome h.answers.comes) h.later.seen

  all_grow : (records : List (List ℕ)) (old new : SessionState) (text : List ℕ) → RepliesUpToBad message (IsReply version tells verifier history) records old new text → Grows old new
  all_grow [] old new text h = grows-same old new h.0
  all_grow (r ∷ rs) old new text h = of (λ mid more k. all_grow rs mid new more k) (message r) h
    where
      of : ((mid : SessionState) (more : List ℕ) → RepliesUpToBad message (IsReply version tells verifier history) rs mid new more → Grows mid new)
          → (m : Option Message) → IsRepliedUnlessBad (IsReply version tells verifier history) m old new text (λ mid more. RepliesUpToBad message (IsReply version tells verifier history) rs mid new more) → Grows old new
      of rest None k = grows-same old new k.0
      of rest (Some call) k = grows-trans old k.0 new (reply_grows call old k.0 k.1 k.3) (rest k.0 k.2 k.4)

pub replies_grow : (version : FormatVersion) (tells : Time → Type 0) (verifier : List ℕ) (records : List (List ℕ)) (old new : SessionState) (text : List ℕ) (history : List Entry) → RepliesUpToBad message (IsReply version tells verifier history) records old new text → IsPrefix old.seen new.seen × (floor old.seen ≤ floor new.seen)
replies_grow version tells verifier records old new text history h =
    let p = all_grow version tells verifier history records old new text h in
    (p, floor_grows old new p)

call_marked : (version : FormatVersion) (history : List Entry) (verifier : List ℕ) (now : Time) (asked : Result Operation CallRefused) (operation : Operation) (r : Results) (old new : SessionState) (outcome : Result Results CallRefused) → asked ≡ Ok operation → outcome ≡ Ok r → IsTrue (has_to_wait operation) → IsTrue (is_accepted r) → ServesCall version (marked history) verifier now asked old outcome new → HasMarked history old new
call_marked version history verifier now (Err why) operation r old new outcome e f wt ok h = absurd cc
call_marked version history verifier now (Ok o) operation r old new outcome e f wt ok h =
    let same : o ≡ operation = cc in
    let results : h.0 ≡ r = cc in
    serves_marked_in version history verifier now o old new h.0 (subst (λ (p : Operation). IsTrue (has_to_wait p)) (sym same) wt) (subst (λ (q : Results). IsTrue (is_accepted q)) (sym results) ok) h.2

-- what stands in a front stands in the whole
stands_in : {A : Type 0} (front more : List A) (place : ℕ) (e : A) → slice_get front place ≡ Some e → slice_get (front ++ more) place ≡ Some e
stands_in [] more place e is = let none : None ≡ Some e = sym (slice_get_past [] place (omega arith)) ∙ is in absurd cc
stands_in (x ∷ xs) more zero e is = is
stands_in (x ∷ xs) more (suc place) e is = stands_in xs more place e is

-- a commit of a session that has seen more since
commits_later : (old done mid : SessionState) (place : ℕ) → OnlyExtends done mid → CommitsOnceAt old done place → CommitsOnceAt old mid place
commits_later old done mid place later c = record {
  made = c.made;
  stands = ap (λ (h : List Entry). slice_get h place) (sym later.seen.1) ∙ stands_in done.seen later.seen.0 place (commit c.made) c.stands;
  later = c.later;
  one_more = ap (λ (h : List Entry). commits_of mid.number h) later.mine ∙ ap (λ (n : ℕ). commits_of n done.mine) later.number ∙ c.one_more;
}

-- what a mark of a history covers is covered as long as the front that it counts is a front of it
marked_whole : (front whole : List Entry) (place : ℕ) (e : Entry) → IsPrefix front whole → slice_get front place ≡ Some e → count (take (place + 1) front) ≤ floor whole → IsMarked whole place
marked_whole front whole place e p there low =
    let same : take (place + 1) whole ≡ take (place + 1) front = ap (take (place + 1)) (sym p.1) ∙ take-append-le (place + 1) front p.0 (omega (arith, slice_get_within front place e there)) in
    subst (λ (h : List Entry). count h ≤ floor whole) (sym same) low

pub stays_stable : (version : FormatVersion) (tells : Time → Type 0) (verifier : List ℕ) (call : Message) (operation : Operation) (r : Results) (old mid new : SessionState) (reply : List ℕ) (behind : List (List ℕ)) (more : List ℕ)
    → (replied : IsReply version tells verifier new.seen call old mid reply) → asks call.asked ≡ Ok operation → replied.answers.outcome ≡ Ok r → IsTrue (has_to_wait operation) → IsTrue (is_accepted r)
    → RepliesUpToBad message (IsReply version tells verifier new.seen) behind mid new more → (place : ℕ) × CommitsOnceAt old mid place × IsMarked new.seen place
stays_stable version tells verifier call operation r old mid new reply behind more replied e f wt ok h =
    let now = call_marked version new.seen verifier replied.moment (asks call.asked) operation r old replied.done replied.answers.outcome e f wt ok replied.answers.comes in
    let grown = replies_grow version tells verifier behind mid new more new.seen h in
    let reach : IsPrefix replied.done.seen new.seen = grows-trans replied.done mid new replied.later.seen grown.0 in
    (now.0, commits_later old replied.done mid now.0 replied.later now.1, marked_whole replied.done.seen new.seen now.0 _ reach now.1.stands now.2)

-- the commit and its mark, of a session that has seen more since
pub stays_later : (old last now : SessionState) (place : ℕ) → OnlyExtends last now → CommitsOnceAt old last place → IsMarked last.seen place
    → CommitsOnceAt old now place × IsMarked now.seen place
stays_later old last now place later once low = (
  commits_later old last now place later once,
  marked_whole last.seen now.seen place (commit once.made) later.seen once.stands (omega (arith, low, floor_grows last now later.seen)),
)
