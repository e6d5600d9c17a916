-- The laws of lists of items: a list is read exactly if its spelling is there.
use Rattle.std.proofs.Common.{◌≡◌, ℕ, zero, suc, ◌<◌, Bool, true, false, List, [], ◌∷◌, ◌++◌, length, Option, Some, refl, sym, ap, subst, ◌∙◌, append_assoc, arith}
use Rattle.std.specs.Prelude.{nat_le}
use Rattle.std.specs.List.{flat_map, AllByRecursion}
use Rattle.std.proofs.lemmas.List.{length-append}
use Rattle.journal_xdr.specs.Items.{Item, ◌>>=◌, such_that, Spelled, IsGrammar}
use Rattle.journal_xdr.specs.Basic.{word, boolean}
use Rattle.journal_xdr.specs.ItemLaws.{bind_some, some_is, such_that_laws, tagged_laws}
use Rattle.journal_xdr.specs.BasicLaws.{word_laws, boolean_laws, length-boolean}
use Rattle.journal_xdr.specs.Lists.{run, read_run, run_text, array, link_text, list_text, read_link, read_links, list}

abbrev some : {A : Type 0} → A → Option A
some x = Some x

has_truth : (b : Bool) → boolean.Has b
unfolding word boolean
has_truth true = (omega arith, refl)
has_truth false = (omega arith, refl)

module _ {T : Type 0} (a : Item T) (laws : IsGrammar a) where
  -- ---- n values

  run_takes : (n : ℕ) (bytes : List ℕ) (x : List T × List ℕ) → read_run a n bytes ≡ Some x → Spelled (run a n) bytes x.0 x.1
  run_takes zero bytes x e =
      subst (λ (y : List T × List ℕ). Spelled (run a zero) bytes y.0 y.1) (some_is ([], bytes) x e) (record { has = (refl, tt); parts = refl })
  run_takes (suc n) bytes x e =
      let p = bind_some (a.reading bytes) (λ p. read_run a n p.1 >>= λ xs. Some (p.0 ∷ xs.0, xs.1)) x e in
      let q = bind_some (read_run a n p.0.1) (λ xs. Some (p.0.0 ∷ xs.0, xs.1)) x p.2 in
      let s = laws.takes bytes p.0 p.1 in
      let t = run_takes n p.0.1 q.0 q.1 in
      subst (λ (y : List T × List ℕ). Spelled (run a (suc n)) bytes y.0 y.1) (some_is (p.0.0 ∷ q.0.0, q.0.1) x q.2)
      (record {
        has = (ap (λ (k : ℕ). suc k) t.has.0, (s.has, t.has.1));
        parts = s.parts ∙ ap (λ (r : List ℕ). a.spelling p.0.0 ++ r) t.parts ∙ sym (append_assoc (a.spelling p.0.0) (run_text a.spelling q.0.0) q.0.1);
      })

  run_again : (n : ℕ) (v : List T) (rest : List ℕ) → (length v ≡ n) × AllByRecursion a.Has v → read_run a n (run_text a.spelling v ++ rest) ≡ Some (v, rest)
  run_again zero [] rest h = refl
  run_again zero (x ∷ xs) rest h = absurd (omega (arith, h.0))
  run_again (suc n) [] rest h = absurd (omega (arith, h.0))
  run_again (suc n) (x ∷ xs) rest h =
      let all : length xs ≡ n = omega (arith, h.0) in
      ap (λ (r : List ℕ). a.reading r >>= λ p. read_run a n p.1 >>= λ ys. Some (p.0 ∷ ys.0, ys.1)) (append_assoc (a.spelling x) (run_text a.spelling xs) rest)
      ∙ rw (laws.again x (run_text a.spelling xs ++ rest) h.1.0, run_again n xs rest (all, h.1.1)) refl

  pub run_laws : (n : ℕ) → IsGrammar (run a n)
  run_laws n = record { takes = run_takes n; again = run_again n }

  pub array_laws : (limit : ℕ) → IsGrammar (array limit a)
  array_laws limit = tagged_laws (such_that (λ n. nat_le n limit) word) (run a) length (such_that_laws (λ n. nat_le n limit) word word_laws) run_laws (λ n v h. h.0)

  -- ---- linked lists

  linked_text : (y : T) (ys : List T) (rest : List ℕ) → list_text a.spelling (y ∷ ys) ++ rest ≡ boolean.spelling true ++ (a.spelling y ++ (list_text a.spelling ys ++ rest))
  linked_text y ys rest =
      let yes = boolean.spelling true in
      let links = flat_map (link_text a.spelling) ys in
      let no = boolean.spelling false in
      ap (λ (t : List ℕ). t ++ rest) (append_assoc (yes ++ a.spelling y) links no)
      ∙ append_assoc (yes ++ a.spelling y) (links ++ no) rest
      ∙ append_assoc yes (a.spelling y) ((links ++ no) ++ rest)

  links_take : (n : ℕ) (bytes : List ℕ) (x : List T × List ℕ) → read_links a n bytes ≡ Some x → Spelled (list a) bytes x.0 x.1
  links_take zero bytes x e = absurd cc
  links_take (suc n) bytes x e =
      let b = bind_some (boolean.reading bytes) (λ b. read_link a (read_links a n) b.0 b.1) x e in
      let s = boolean_laws.takes bytes b.0 b.1 in
      of (links_take n) b.0.0 b.0.1 s.parts b.2
    where
      of : ((rest : List ℕ) (y : List T × List ℕ) → read_links a n rest ≡ Some y → Spelled (list a) rest y.0 y.1) → (more : Bool) (behind : List ℕ) → bytes ≡ boolean.spelling more ++ behind → read_link a (read_links a n) more behind ≡ Some x → Spelled (list a) bytes x.0 x.1
      of take false behind is f =
          subst (λ (y : List T × List ℕ). Spelled (list a) bytes y.0 y.1) (some_is ([], behind) x f) (record { has = tt; parts = is })
      of take true behind is f =
          let p = bind_some (a.reading behind) (λ p. read_links a n p.1 >>= λ xs. Some (p.0 ∷ xs.0, xs.1)) x f in
          let q = bind_some (read_links a n p.0.1) (λ xs. Some (p.0.0 ∷ xs.0, xs.1)) x p.2 in
          let s = laws.takes behind p.0 p.1 in
          let t = take p.0.1 q.0 q.1 in
          subst (λ (y : List T × List ℕ). Spelled (list a) bytes y.0 y.1) (some_is (p.0.0 ∷ q.0.0, q.0.1) x q.2)
          (record {
            has = (s.has, t.has);
            parts =
                is ∙ ap (λ (r : List ℕ). boolean.spelling true ++ r) (s.parts ∙ ap (λ (r : List ℕ). a.spelling p.0.0 ++ r) t.parts)
                ∙ sym (linked_text p.0.0 q.0.0 q.0.1);
          })

  links_again : (n : ℕ) (v : List T) (rest : List ℕ) → AllByRecursion a.Has v → length v < n → read_links a n (list_text a.spelling v ++ rest) ≡ Some (v, rest)
  links_again zero v rest h few = absurd (omega (arith, few))
  links_again (suc n) [] rest h few = rw (boolean_laws.again false rest (has_truth false)) refl
  links_again (suc n) (x ∷ xs) rest h few =
      ap (λ (r : List ℕ). boolean.reading r >>= λ b. read_link a (read_links a n) b.0 b.1) (linked_text x xs rest)
      ∙ rw (boolean_laws.again true (a.spelling x ++ (list_text a.spelling xs ++ rest)) (has_truth true), laws.again x (list_text a.spelling xs ++ rest) h.0, links_again n xs rest h.1 (omega (arith, few))) refl

  -- there are more bytes than values
  few_values : (v : List T) (rest : List ℕ) → length v < length (list_text a.spelling v ++ rest)
  few_values [] rest = omega (arith, length-append (boolean.spelling false) rest, length-boolean false)
  few_values (x ∷ xs) rest =
      let more = few_values xs rest in
      let whole = ap length (linked_text x xs rest) in
      omega (arith, more, whole, length-append (boolean.spelling true) (a.spelling x ++ (list_text a.spelling xs ++ rest)), length-append (a.spelling x) (list_text a.spelling xs ++ rest), length-boolean true)

  pub list_laws : IsGrammar (list a)
  list_laws = record {
    takes = λ bytes x e. links_take (length bytes) bytes x e;
    again = λ v rest h. links_again (length (list_text a.spelling v ++ rest)) v rest h (few_values v rest);
  }
