-- A value is read exactly if its spelling is there: once for each way to put items together.
use Rattle.std.proofs.Common.{◌≡◌, ℕ, Bool, true, false, cond, List, ◌++◌, Option, Some, None, refl, sym, ap, subst, ◌∙◌, append_assoc}
use Rattle.std.specs.Prelude.{IsSomeAnd}
use Rattle.journal_xdr.specs.Items.{Item, ◌>>=◌, pair, coded, mapped_item, such_that, tagged, only, never, variant, Spelled, IsGrammar, ReadsItem, FindsItem, HasOneSpelling}

pub bind_some : {A B : Type 0} (o : Option A) (f : A → Option B) (y : B) → (o >>= f) ≡ Some y → (x : A) × (o ≡ Some x) × (f x ≡ Some y)
bind_some (Some x) f y e = (x, refl, e)
bind_some None f y e = absurd cc

abbrev some : {A : Type 0} → A → Option A
some x = Some x

pub some_is : {A : Type 0} (x y : A) → some x ≡ some y → x ≡ y
some_is x y e = cc

pub guard_some : {A : Type 0} (b : Bool) (x y : A) → cond b (some x) None ≡ Some y → (b ≡ true) × (x ≡ y)
guard_some true x y e = (refl, cc)
guard_some false x y e = absurd cc

pub pair_laws : {A B : Type 0} (a : Item A) (b : Item B) → IsGrammar a → IsGrammar b → IsGrammar (pair a b)
pair_laws {A} {B} a b la lb = record {
  takes = λ bytes x e.
      let p = bind_some (a.reading bytes) (λ p. b.reading p.1 >>= λ q. Some ((p.0, q.0), q.1)) x e in
      let q = bind_some (b.reading p.0.1) (λ q. Some ((p.0.0, q.0), q.1)) x p.2 in
      let s = la.takes bytes p.0 p.1 in
      let t = lb.takes p.0.1 q.0 q.1 in
      subst (λ (y : (A × B) × List ℕ). Spelled (pair a b) bytes y.0 y.1) (some_is ((p.0.0, q.0.0), q.0.1) x q.2)
      (record { has = (s.has, t.has); parts = s.parts ∙ ap (λ (r : List ℕ). a.spelling p.0.0 ++ r) t.parts ∙ sym (append_assoc (a.spelling p.0.0) (b.spelling q.0.0) q.0.1) });
  again = λ v rest h.
      ap (λ (r : List ℕ). a.reading r >>= λ p. b.reading p.1 >>= λ q. Some ((p.0, q.0), q.1)) (append_assoc (a.spelling v.0) (b.spelling v.1) rest)
      ∙ rw (la.again v.0 (b.spelling v.1 ++ rest) h.0, lb.again v.1 rest h.1) refl;
}

pub coded_laws : {A B : Type 0} (a : Item A) (meaning : A → Option B) (code : B → A) → IsGrammar a → ((x : A) (v : B) → a.Has x → meaning x ≡ Some v → code v ≡ x) → IsGrammar (coded a meaning code)
coded_laws {A} {B} a meaning code la back = record {
  takes = λ bytes x e.
      let p = bind_some (a.reading bytes) (λ p. meaning p.0 >>= λ v. Some (v, p.1)) x e in
      let q = bind_some (meaning p.0.0) (λ v. Some (v, p.0.1)) x p.2 in
      let s = la.takes bytes p.0 p.1 in
      let is : code q.0 ≡ p.0.0 = back p.0.0 q.0 s.has q.1 in
      subst (λ (y : B × List ℕ). Spelled (coded a meaning code) bytes y.0 y.1) (some_is (q.0, p.0.1) x q.2)
      (record { has = (rw is s.has, rw is q.1); parts = rw is s.parts });
  again = λ v rest h. rw (la.again (code v) rest h.0, h.1) refl;
}

pub made_laws : {A B : Type 0} (a : Item A) (make : A → B) (parts : B → A) → IsGrammar a → ((x : A) → parts (make x) ≡ x) → ((v : B) → make (parts v) ≡ v) → IsGrammar (mapped_item a make parts)
made_laws {A} {B} a make parts la there back = record {
  takes = λ bytes x e.
      let p = bind_some (a.reading bytes) (λ p. Some (make p.0, p.1)) x e in
      let s = la.takes bytes p.0 p.1 in
      subst (λ (y : B × List ℕ). Spelled (mapped_item a make parts) bytes y.0 y.1) (some_is (make p.0.0, p.0.1) x p.2)
      (record { has = subst a.Has (sym (there p.0.0)) s.has; parts = s.parts ∙ ap (λ v. a.spelling v ++ p.0.1) (sym (there p.0.0)) });
  again = λ v rest h. rw (la.again (parts v) rest h) (ap (λ w. some (w, rest)) (back v));
}

pub such_that_laws : {T : Type 0} (test : T → Bool) (a : Item T) → IsGrammar a → IsGrammar (such_that test a)
such_that_laws {T} test a la = record {
  takes = λ bytes x e.
      let p = bind_some (a.reading bytes) (λ p. cond (test p.0) (Some p) None) x e in
      let g = guard_some (test p.0.0) p.0 x p.2 in
      let s = la.takes bytes p.0 p.1 in
      subst (λ (y : T × List ℕ). Spelled (such_that test a) bytes y.0 y.1) g.1 (record { has = (s.has, g.0); parts = s.parts });
  again = λ v rest h. rw (la.again v rest h.0) (ap (λ b. cond b (some (v, rest)) None) h.1);
}

pub tagged_laws : {A T : Type 0} (tag : Item A) (arm : A → Item T) (tag_of : T → A) → IsGrammar tag → ((x : A) → IsGrammar (arm x)) → ((x : A) (v : T) → (arm x).Has v → tag_of v ≡ x) → IsGrammar (tagged tag arm tag_of)
tagged_laws {A} {T} tag arm tag_of lt la is_tag = record {
  takes = λ bytes x e.
      let p = bind_some (tag.reading bytes) (λ p. (arm p.0).reading p.1) x e in
      let s = lt.takes bytes p.0 p.1 in
      let t = (la p.0.0).takes p.0.1 x p.2 in
      let is : p.0.0 ≡ tag_of x.0 = sym (is_tag p.0.0 x.0 t.has) in
      record {
        has = (subst tag.Has is s.has, subst (λ k. (arm k).Has x.0) is t.has);
        parts = s.parts ∙ ap (λ (r : List ℕ). tag.spelling p.0.0 ++ r) t.parts ∙ sym (append_assoc (tag.spelling p.0.0) ((arm p.0.0).spelling x.0) x.1)
            ∙ ap (λ k. (tag.spelling k ++ (arm k).spelling x.0) ++ x.1) is;
      };
  again = λ v rest h.
      ap (λ (r : List ℕ). tag.reading r >>= λ p. (arm p.0).reading p.1) (append_assoc (tag.spelling (tag_of v)) ((arm (tag_of v)).spelling v) rest)
      ∙ rw (lt.again (tag_of v) ((arm (tag_of v)).spelling v ++ rest) h.0) ((la (tag_of v)).again v rest h.1);
}

pub only_laws : {T : Type 0} (value : T) → IsGrammar (only value)
only_laws {T} value = record {
  takes = λ bytes x e.
      subst (λ (y : T × List ℕ). Spelled (only value) bytes y.0 y.1) (some_is (value, bytes) x e) (record { has = refl; parts = refl });
  again = λ v rest h. ap (λ w. some (w, rest)) (sym h);
}

pub never_laws : {T : Type 0} → IsGrammar (never {T = T})
never_laws {T} = record { takes = λ bytes x e. absurd cc; again = λ v rest h. absurd h }

holds_some : {A : Type 0} (P : A → Type 0) (o : Option A) (x : A) → o ≡ Some x → P x → IsSomeAnd o P
holds_some P o x e p = rw e p

holds_part : {A : Type 0} (P : A → Type 0) (o : Option A) → IsSomeAnd o P → (x : A) × (o ≡ Some x) × P x
holds_part P (Some x) h = (x, refl, h)
holds_part P None h = absurd h

pub variant_laws : {A T : Type 0} (a : Item A) (make : A → T) (part : T → Option A) → IsGrammar a → ((x : A) → part (make x) ≡ Some x) → ((v : T) (x : A) → part v ≡ Some x → make x ≡ v) → IsGrammar (variant a make part)
variant_laws {A} {T} a make part la there back = record {
  takes = λ bytes x e.
      let p = bind_some (a.reading bytes) (λ p. Some (make p.0, p.1)) x e in
      let s = la.takes bytes p.0 p.1 in
      subst (λ (y : T × List ℕ). Spelled (variant a make part) bytes y.0 y.1) (some_is (make p.0.0, p.0.1) x p.2)
      (record { has = holds_some a.Has (part (make p.0.0)) p.0.0 (there p.0.0) s.has; parts = rw (there p.0.0) s.parts });
  again = λ v rest h.
      let p = holds_part a.Has (part v) h in
      rw (p.1, la.again p.0 rest p.2) (ap (λ w. some (w, rest)) (back v p.0 p.1));
}

-- ---- what follows for every item

pub one_spelling : {T : Type 0} (item : Item T) → IsGrammar item → HasOneSpelling item
one_spelling item laws v w x y hv hw e =
    let same = some_is (v, x) (w, y) (sym (laws.again v x hv) ∙ ap item.reading e ∙ laws.again w y hw) in
    (ap (λ p. p.0) same, ap (λ p. p.1) same)

-- where nothing is read, no value's spelling is at the front
pub none_is_spelled : {T : Type 0} (item : Item T) → IsGrammar item → (bytes : List ℕ) → item.reading bytes ≡ None → (v : T) (rest : List ℕ) → ¬ (Spelled item bytes v rest)
none_is_spelled item laws bytes e v rest s = absurd (cc (laws.again v rest s.has, ap item.reading s.parts, e))

pub finds : {T X : Type 0} (item : Item T) → IsGrammar item → (view : X → T) (old new : List ℕ) (result : Option X) → ReadsItem item view old new result → FindsItem item view old new result
finds item laws view old new None e = none_is_spelled item laws old e
finds item laws view old new (Some x) e = laws.takes old (view x, new) e
