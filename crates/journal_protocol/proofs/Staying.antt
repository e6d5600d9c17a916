-- The session has seen before some replies what it has seen after them, with its marks.
use Rattle.std.proofs.Common.{ℕ, ◌≤◌, List, [], ◌∷◌, subst}
use Rattle.journal_world.specs.Histories.{Entry, floor}
use Rattle.journal_world.proofs.Marks.{floor-append-le}
use Rattle.journal_history.specs.Tokens.{SessionState}
use Rattle.journal_inode.specs.declared.node.Time.{Time}
use Rattle.journal_protocol.specs.Protocols.{Service, IsLawful}
use Rattle.journal_protocol.specs.Grows.{Grows, grows-same, grows-trans}
use Rattle.journal_protocol.specs.Output.{IsReplyBy, AllReplies}

pub floor_grows : (old new : SessionState) → Grows old new → floor old.seen ≤ floor new.seen
floor_grows old new p = subst (λ (h : List Entry). floor old.seen ≤ floor h) p.1 (floor-append-le old.seen p.0)

pub all_grow : {C : Type 0} (s : Service C) (tells : Time → Type 0) (laws : IsLawful s) (history : List Entry) (rs : List (List ℕ)) (old new : SessionState) (text : List ℕ) → AllReplies s.reads (IsReplyBy s.does tells history) rs old new text → floor old.seen ≤ floor new.seen
all_grow s tells laws history rs old new text h = floor_grows old new (all rs old text h)
  where
    all : (qs : List (List ℕ)) (from : SessionState) (t : List ℕ) → AllReplies s.reads (IsReplyBy s.does tells history) qs from new t → Grows from new
    all [] from t k = grows-same from new k.0
    all (q ∷ qs) from t k =
        let one = k.2 in
        let reply = one.3 in
        let first : Grows from one.0 = grows-trans from reply.done one.0 (laws.grows history reply.moment k.0 from reply.done one.1 reply.answers) reply.later.seen in
        grows-trans from one.0 new first (all qs one.0 one.2 one.4)
