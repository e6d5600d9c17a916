-- Values that are spelled by the whole of some bytes are those that are read with nothing left.
use Rattle.std.proofs.Common.{◌≡◌, ℕ, List, [], ◌∷◌, Option, Some, None, refl, sym, ap, subst, ◌∙◌}
use Rattle.std.proofs.lemmas.List.{append-nil}
use Rattle.journal_xdr.specs.Items.{Item, IsGrammar}
use Rattle.journal_nfs3_wire.specs.Whole.{alone, whole, IsSpelling}

alone_is : {T : Type 0} (item : Item T) → IsGrammar item → (bytes : List ℕ) (found : Option (T × List ℕ)) (v : T) → item.reading bytes ≡ found → alone found ≡ Some v → IsSpelling item bytes v
alone_is item laws bytes None v is e = absurd cc
alone_is item laws bytes (Some (read, [])) v is e =
    let s = laws.takes bytes (read, []) is in
    let same : read ≡ v = cc in
    subst (IsSpelling item bytes) same (record { has = s.has; is = s.parts ∙ append-nil _ })
alone_is item laws bytes (Some (read, b ∷ more)) v is e = absurd cc

pub whole_is : {T : Type 0} (item : Item T) → IsGrammar item → (bytes : List ℕ) (v : T) → whole item bytes ≡ Some v → IsSpelling item bytes v
whole_is item laws bytes v e = alone_is item laws bytes (item.reading bytes) v refl e

pub is_whole : {T : Type 0} (item : Item T) → IsGrammar item → (bytes : List ℕ) (v : T) → IsSpelling item bytes v → whole item bytes ≡ Some v
is_whole item laws bytes v s = ap alone (ap item.reading (s.is ∙ sym (append-nil _)) ∙ laws.again v [] s.has)

-- nothing is read where no value is spelled
pub none_is : {T : Type 0} (item : Item T) → IsGrammar item → (bytes : List ℕ) → whole item bytes ≡ None → (v : T) → IsSpelling item bytes v → ⊥
none_is item laws bytes e v s = absurd (cc (is_whole item laws bytes v s, e))

either : {T : Type 0} (o : Option T) → ((v : T) → o ≡ Some v → ⊥) → o ≡ None
either None h = refl
either (Some v) h = absurd (h v refl)

pub is_none : {T : Type 0} (item : Item T) → IsGrammar item → (bytes : List ℕ) → ((v : T) → IsSpelling item bytes v → ⊥) → whole item bytes ≡ None
is_none item laws bytes h = either (whole item bytes) (λ v e. h v (whole_is item laws bytes v e))
