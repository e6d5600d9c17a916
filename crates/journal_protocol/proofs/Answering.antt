-- Replies one after another.
use Rattle.std.proofs.Common.{◌≡◌, ℕ, List, [], ◌∷◌, ◌++◌, Option, Some, refl, sym, ap, subst, ◌∙◌, append_assoc}
use Rattle.std.proofs.lemmas.List.{append-nil}
use Rattle.journal_protocol.specs.Output.{AllReplies}

-- one more is answered
pub one_more : {C S : Type 0} (reads : List ℕ → Option C) (answers : C → S → S → List ℕ → Type 0) (rs : List (List ℕ)) (r : List ℕ) (call : C) (old mid new : S) (text reply : List ℕ)
    → AllReplies reads answers rs old mid text → reads r ≡ Some call → answers call mid new reply → AllReplies reads answers (rs ++ r ∷ []) old new (text ++ reply)
one_more reads answers [] r call old mid new text reply h is a =
    (call, is, (new, reply, [], subst (λ s. answers call s new reply) h.0 a, (refl, refl), ap (λ (t : List ℕ). t ++ reply) h.1 ∙ sym (append-nil reply)))
one_more reads answers (q ∷ rs) r call old mid new text reply h is a =
    let k = h.2 in
    (h.0, h.1, (k.0, k.1, k.2 ++ reply, k.3, one_more reads answers rs r call k.0 mid new k.2 reply k.4 is a, ap (λ (t : List ℕ). t ++ reply) k.5 ∙ append_assoc k.1 k.2 reply))

-- all of these were answered, and then all of those
pub all_then : {C S : Type 0} (reads : List ℕ → Option C) (answers : C → S → S → List ℕ → Type 0) (done rs : List (List ℕ)) (old mid new : S) (text more : List ℕ)
    → AllReplies reads answers done old mid text → AllReplies reads answers rs mid new more → AllReplies reads answers (done ++ rs) old new (text ++ more)
all_then reads answers [] rs old mid new text more h k =
    let start = subst (λ s. AllReplies reads answers rs s new more) h.0 k in
    subst (λ (t : List ℕ). AllReplies reads answers rs old new (t ++ more)) (sym h.1) start
all_then reads answers (q ∷ done) rs old mid new text more h k =
    let a = h.2 in
    (h.0, h.1, (a.0, a.1, a.2 ++ more, a.3, all_then reads answers done rs a.0 mid new a.2 more a.4 k, ap (λ (t : List ℕ). t ++ more) a.5 ∙ append_assoc a.1 a.2 more))

-- what answers in one way answers in another, seen in other states
pub all_so : {C S T : Type 0} (reads : List ℕ → Option C) (one : C → S → S → List ℕ → Type 0) (other : C → T → T → List ℕ → Type 0) (g : S → T)
    → ((call : C) (old new : S) (text : List ℕ) → one call old new text → other call (g old) (g new) text)
    → (rs : List (List ℕ)) (old new : S) (text : List ℕ) → AllReplies reads one rs old new text → AllReplies reads other rs (g old) (g new) text
all_so reads one other g so [] old new text h = (ap g h.0, h.1)
all_so reads one other g so (r ∷ rs) old new text h =
    let k = h.2 in
    (h.0, h.1, (g k.0, k.1, k.2, so h.0 old k.0 k.1 k.3, all_so reads one other g so rs k.0 new k.2 k.4, k.5))
