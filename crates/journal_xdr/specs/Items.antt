-- How the values of a type are spelled as bytes, and how such types are put together (RFC 4506).
use Rattle.std.specs.Option.{option_map_or}
use Rattle.std.specs.Prelude.{◌≡◌, ℕ, Bool, IsTrue, IsSomeAnd, if◌then◌else◌, List, [], ◌++◌, Option, Some, None}

-- The values of a type: which they are, how each is spelled, and the reading of the front of some
-- bytes: a value with the bytes after it, or nothing
pub record Item (T : Type 0) : Type 1 where
  pub Has : T → Type 0
  pub spelling : T → List ℕ
  pub reading : List ℕ → Option (T × List ℕ)

infixl 10 ◌>>=◌
abbrev pub ◌>>=◌ : {A B : Type 0} → Option A → (A → Option B) → Option B
None >>= f = None
(Some x) >>= f = f x

-- one value after another
abbrev pub pair : {A B : Type 0} → Item A → Item B → Item (A × B)
pair a b = record {
  Has = λ p. a.Has p.0 × b.Has p.1;
  spelling = λ p. a.spelling p.0 ++ b.spelling p.1;
  reading = λ bytes. a.reading bytes >>= λ x. b.reading x.1 >>= λ y. Some ((x.0, y.0), y.1);
}

-- Values that stand for those of another item: each is spelled as what it stands for. meaning says
-- what that is, where it is anything
abbrev pub coded : {A B : Type 0} → Item A → (A → Option B) → (B → A) → Item B
coded a meaning code = record {
  Has = λ v. a.Has (code v) × (meaning (code v) ≡ Some v);
  spelling = λ v. a.spelling (code v);
  reading = λ bytes. a.reading bytes >>= λ x. meaning x.0 >>= λ v. Some (v, x.1);
}

-- the same, where each value of the other item stands for one
abbrev pub mapped_item : {A B : Type 0} → Item A → (A → B) → (B → A) → Item B
mapped_item a make parts = record {
  Has = λ v. a.Has (parts v);
  spelling = λ v. a.spelling (parts v);
  reading = λ bytes. a.reading bytes >>= λ x. Some (make x.0, x.1);
}

-- a value after its tag, which says how it is spelled
abbrev pub tagged : {A T : Type 0} → Item A → (A → Item T) → (T → A) → Item T
tagged tag arm tag_of = record {
  Has = λ v. tag.Has (tag_of v) × (arm (tag_of v)).Has v;
  spelling = λ v. tag.spelling (tag_of v) ++ (arm (tag_of v)).spelling v;
  reading = λ bytes. tag.reading bytes >>= λ x. (arm x.0).reading x.1;
}

-- the values that pass a test
abbrev pub such_that : {T : Type 0} → (T → Bool) → Item T → Item T
such_that test a = record {
  Has = λ v. a.Has v × IsTrue (test v);
  spelling = a.spelling;
  reading = λ bytes. a.reading bytes >>= λ x. if test x.0 then Some x else None;
}

-- one value alone, with no bytes
abbrev pub only : {T : Type 0} → T → Item T
only value = record {
  Has = λ v. v ≡ value;
  spelling = λ v. [];
  reading = λ bytes. Some (value, bytes);
}

-- no value
abbrev pub never : {T : Type 0} → Item T
never = record { Has = λ v. ⊥; spelling = λ v. []; reading = λ bytes. None }

-- the values of one variant of a type: make gives it what it holds, and part takes that out again
abbrev pub variant : {A T : Type 0} → Item A → (A → T) → (T → Option A) → Item T
variant a make part = record {
  Has = λ v. IsSomeAnd (part v) a.Has;
  spelling = λ v. option_map_or a.spelling (part v) [];
  reading = λ bytes. a.reading bytes >>= λ x. Some (make x.0, x.1);
}

-- The answer of a reader, seen by view, is the reading of the bytes: new is the bytes after the
-- value
abbrev pub ReadsItem : {T X : Type 0} → Item T → (X → T) → List ℕ → List ℕ → Option X → Type 0
ReadsItem item view old new None = item.reading old ≡ None
ReadsItem item view old new (Some x) = item.reading old ≡ Some (view x, new)

-- The value's spelling is at the front of the bytes, and rest is after it
pub record Spelled {T : Type 0} (item : Item T) (bytes : List ℕ) (value : T) (rest : List ℕ) : Type 0 where
  pub has : item.Has value
  pub parts : bytes ≡ item.spelling value ++ rest

-- A value is read exactly if its spelling is at the front
pub record IsGrammar {T : Type 0} (item : Item T) : Type 0 where
  pub takes : (bytes : List ℕ) (x : T × List ℕ) → item.reading bytes ≡ Some x → Spelled item bytes x.0 x.1
  pub again : (v : T) (rest : List ℕ) → item.Has v → item.reading (item.spelling v ++ rest) ≡ Some (v, rest)

-- Each value has one spelling, and no spelling of a value begins another
abbrev pub HasOneSpelling : {T : Type 0} → Item T → Type 0
HasOneSpelling {T} item = (v w : T) (x y : List ℕ) → item.Has v → item.Has w → item.spelling v ++ x ≡ item.spelling w ++ y → (v ≡ w) × (x ≡ y)

-- The answer of a reader, in the words of the grammar: a value spelled at the front, or that none
-- is
abbrev pub FindsItem : {T X : Type 0} → Item T → (X → T) → List ℕ → List ℕ → Option X → Type 0
FindsItem {T} item view old new None = (v : T) (more : List ℕ) → ¬ (Spelled item old v more)
FindsItem {T} item view old new (Some x) = Spelled item old (view x) new

-- new is old with the spelling of the value at its end
abbrev pub Writes : {T : Type 0} → Item T → T → List ℕ → List ℕ → Type 0
Writes item value old new = new ≡ old ++ item.spelling value

-- The same in the words of the grammar: the value is one of the item's
pub record AddsItem {T : Type 0} (item : Item T) (value : T) (old new : List ℕ) : Type 0 where
  pub has : item.Has value
  pub parts : new ≡ old ++ item.spelling value
