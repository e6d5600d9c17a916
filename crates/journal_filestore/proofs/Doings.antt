-- What a transaction's reads and writes come to.
use Rattle.std.proofs.Common.{ℕ, suc, length, ◌≡◌, ◌≤◌, Bool, true, false, cond, List, [], ◌∷◌, ◌==◌, get_or, Option, Some, None, Result, Ok, Err, IfOk, OnOk, refl, sym, ap, subst, ◌∙◌, arith}
use Rattle.std.specs.Prelude.{MatchOption}
use Rattle.std.proofs.lemmas.Bool.{and_parts, eqb-true}
use Rattle.std.proofs.lemmas.Bool.Decides.{nat_tests}
use Rattle.std.proofs.lemmas.List.Elements.{All-head, All-tail}
use Rattle.journal_world.specs.declared.address.Addr.{Addr}
use Rattle.journal_world.specs.declared.address.Kind.TheVariants.{Bit}
use Rattle.journal_world.specs.Addresses.{Value, is_value_of, is_same, Shape}
use Rattle.journal_world.specs.Maps.{Map, Pair, Agrees, SamePairs, value_among, value_at, overwritten}
use Rattle.journal_world.proofs.Lookups.{same_addr}
use Rattle.journal_twophase.specs.Transactions.{TxnState, holding, ReadsValue, Learns}
use Rattle.journal_inode.specs.declared.version.FormatVersion.{FormatVersion}
use Rattle.journal_inode.specs.Places.{Object, addr_of, object}
use Rattle.journal_inode.specs.Sound.{HasSoundFiles}
use Rattle.journal_tail.specs.declared.limits.TheConstants.{MAX_UPDATES}
use Rattle.journal_tail.specs.Writes.{written_blocks}
use Rattle.journal_attempts.proofs.Few.{written-few}
use Rattle.journal_filestore.proofs.Overwrites.{pairs_of, AreOnDisk, Overwrites, Overwrites-pairs}
use Rattle.journal_filestore.specs.Files.{Files, files_of}
use Rattle.journal_filestore.specs.Doing.{GivesPairs, MayBeRead, IsNotYetRead, LearnsThat, Write, WritesObject, Makes, Does}

-- what agrees with a map is given by it
pub Gives-Agrees : (m : Map) (ps : List Pair) → Agrees m ps → GivesPairs m ps
Gives-Agrees m [] agrees a v is = let none : None ≡ Some v = is in cc
Gives-Agrees m (p ∷ ps) agrees a v is =
    by_test (is_same a p.0) refl (Gives-Agrees m ps (All-tail (λ (q : Pair). value_at m q.0 ≡ q.1) p ps agrees) a v)
  where
    by_test : (b : Bool) → is_same a p.0 ≡ b → (value_among ps a ≡ Some v → value_at m a ≡ v) → value_at m a ≡ v
    by_test true same rest =
        let first : Some p.1 ≡ Some v = ap (λ t. cond t (Some p.1) (value_among ps a)) (sym same) ∙ is in
        let value : p.1 ≡ v = cc in
        ap (value_at m) (same_addr a p.0 same) ∙ All-head (λ (q : Pair). value_at m q.0 ≡ q.1) p ps agrees ∙ value
    by_test false other rest =
        rest (ap (λ t. cond t (Some p.1) (value_among ps a)) (sym other) ∙ is)

-- what is among the pairs is not missing
not_none : {A : Type 0} (o : Option A) (x : A) → o ≡ None → o ≡ Some x → ⊥
not_none None x none is = absurd (let e : None ≡ Some x = is in cc)
not_none (Some y) x none is = absurd (let e : Some y ≡ None = none in cc)

-- a transaction that has written nothing learns each read
pub Learns-first : (layout : Shape) (old new : TxnState) (a : Addr) (v : Value) → old.writes ≡ [] → ReadsValue (holding layout old a) a v new → Learns (holding layout old a) a v new
Learns-first layout old new a v none read =
    subst (λ ws. MatchOption (value_among ws a) (Learns (holding layout old a) a v new) (λ w. (v ≡ w) × (new ≡ holding layout old a))) none read

-- a first read tells its value
Tells-read : {version : FormatVersion} (layout : Shape) (old new : TxnState) (a : Addr) (v : Value) → value_among old.reads a ≡ None → Learns (holding layout old a) a v new → LearnsThat version layout old new (λ m. value_at m a ≡ v)
Tells-read {version} layout old new a v unread read = record {
  writes = ap (λ t. t.writes) read.others;
  before = λ m seen. record {
    on_disk = seen.on_disk;
    sound = seen.sound;
    gives = λ b w is. seen.gives b w (read.reads b ∙ kept b w is (is_same b a) refl);
  };
  now = λ m seen. seen.gives a v (read.reads a ∙ ap (λ t. cond t (Some v) (value_among old.reads a)) (same_self a));
}
  where
    same_self : (b : Addr) → is_same b b ≡ true
    same_self b = grind (arith, nat_tests)

    kept : (b : Addr) (w : Value) → value_among old.reads b ≡ Some w → (t : Bool) → is_same b a ≡ t → cond (is_same b a) (Some v) (value_among old.reads b) ≡ Some w
    kept b w is true same =
        absurd (not_none (value_among old.reads a) w unread (ap (value_among old.reads) (sym (same_addr b a same)) ∙ is))
    kept b w is false other = ap (λ t. cond t (Some v) (value_among old.reads b)) other ∙ is

-- the first read of an object tells its value
pub Tells-object : {version : FormatVersion} (layout : Shape) (old new : TxnState) (o : Object) (a : Addr) (v : Value) → a ≡ addr_of o → old.writes ≡ [] → IsNotYetRead old o → ReadsValue (holding layout old a) a v new → LearnsThat version layout old new (λ m. object m o ≡ v)
Tells-object {version} layout old new o a v is none unread read =
    subst (λ b. LearnsThat version layout old new (λ m. value_at m b ≡ v)) is
    (Tells-read layout old new a v (ap (value_among old.reads) is ∙ unread) (Learns-first layout old new a v none read))

-- two reads tell both
pub Tells-both : {version : FormatVersion} (layout : Shape) (t0 t1 t2 : TxnState) (P Q : Map → Type 0) → LearnsThat version layout t0 t1 P → LearnsThat version layout t1 t2 Q → LearnsThat version layout t0 t2 (λ m. P m × Q m)
Tells-both {version} layout t0 t1 t2 P Q first second = record {
  writes = second.writes ∙ first.writes;
  before = λ m seen. first.before m (second.before m seen);
  now = λ m seen. (first.now m (second.before m seen), second.now m seen);
}

-- what is told may be said otherwise
pub Tells-like : {version : FormatVersion} (layout : Shape) (old new : TxnState) (P Q : Map → Type 0) → ((m : Map) → HasSoundFiles version m → P m → Q m) → LearnsThat version layout old new P → LearnsThat version layout old new Q
Tells-like {version} layout old new P Q like told = record {
  writes = told.writes;
  before = told.before;
  now = λ m seen. like m seen.sound (told.now m seen);
}

-- a transaction has overwritten these objects, the last one first
pub record HasWritten (layout : Shape) (t : TxnState) (ws : List Write) : Type 0 where
  pub pairs : SamePairs t.writes (pairs_of ws)
  pub on_disk : AreOnDisk layout.blocks ws

pub HasWritten-none : (layout : Shape) (t : TxnState) → t.writes ≡ [] → HasWritten layout t []
HasWritten-none layout t none = record { pairs = λ a. ap (λ ws. value_among ws a) none; on_disk = tt }

pub HasWritten-more : (layout : Shape) (old new : TxnState) (o : Object) (v : Value) (ws : List Write) → WritesObject layout old new o v → HasWritten layout old ws → HasWritten layout new ((o, v) ∷ ws)
HasWritten-more layout old new o v ws writes had = record {
  pairs = λ a. writes.pairs a ∙ ap (λ rest. cond (is_same a (addr_of o)) (Some v) rest) (had.pairs a);
  on_disk = (writes.on_disk, had.on_disk);
}

length-pairs_of : (ws : List Write) → length (pairs_of ws) ≡ length ws
length-pairs_of [] = refl
length-pairs_of (w ∷ ws) = ap suc (length-pairs_of ws)

-- who overwrote nothing wrote few blocks
few-none : (ws : List Pair) → ws ≡ [] → written_blocks ws ≤ MAX_UPDATES
few-none ws none = subst (λ (qs : List Pair). written_blocks qs ≤ MAX_UPDATES) (sym none) (omega arith)

-- What a transaction makes, by the objects that it overwrote
pub Makes-written : {version : FormatVersion} (layout : Shape) (t0 t1 : TxnState) (Q : Map → Map → Type 0) (ws : List Write) → HasWritten layout t1 ws
    → ((m : Map) → MayBeRead version layout t1.reads m → MayBeRead version layout t0.reads m)
    → ((m n : Map) → MayBeRead version layout t1.reads m → Overwrites m n ws → Q m n)
    → length ws ≤ MAX_UPDATES → Makes version layout t0 t1 Q
Makes-written {version} layout t0 t1 Q ws written before shows short = record {
  before = before;
  few = omega (arith, written-few t1.writes (pairs_of ws) written.pairs, length-pairs_of ws, short);
  now = λ m seen. shows m (overwritten m t1.writes) seen
      (Overwrites-pairs m t1.writes ws (subst (λ (s : Shape). AreOnDisk s.blocks ws) (sym seen.on_disk) written.on_disk) written.pairs);
}

-- what it makes that only reads
pub Makes-told : {version : FormatVersion} (layout : Shape) (t0 t1 : TxnState) (P : Map → Type 0) (Q : Map → Map → Type 0) → t0.writes ≡ [] → LearnsThat version layout t0 t1 P
    → ((m : Map) → HasSoundFiles version m → P m → Q m m) → Makes version layout t0 t1 Q
Makes-told {version} layout t0 t1 P Q none told shows = record {
  few = few-none t1.writes (told.writes ∙ none);
  before = told.before;
  now = λ m seen. subst (λ ws. Q m (overwritten m ws)) (sym (told.writes ∙ none)) (shows m seen.sound (told.now m seen));
}

-- of any transaction nothing is said
pub Makes-nothing : {version : FormatVersion} (layout : Shape) (t : TxnState) → t.writes ≡ [] → Makes version layout t t (λ m n. Unit {0})
Makes-nothing {version} layout t none = record { before = λ m seen. seen; now = λ m seen. tt; few = few-none t.writes none }

-- what is made may be said otherwise
pub Makes-like : {version : FormatVersion} (layout : Shape) (t0 t1 : TxnState) (P Q : Map → Map → Type 0) → ((m n : Map) → HasSoundFiles version m → P m n → Q m n) → Makes version layout t0 t1 P → Makes version layout t0 t1 Q
Makes-like {version} layout t0 t1 P Q like made = record {
  few = made.few;
  before = made.before;
  now = λ m seen. like m _ seen.sound (made.now m seen);
}

-- What a transaction does that was told something, and made something of it
pub Does-made : {A : Type 0} {version : FormatVersion} (layout : Shape) (case : Files → A → Files → Type 0) (t0 t1 t2 : TxnState) (answer : A) (P : Map → Type 0) (Q : Map → Map → Type 0)
    → LearnsThat version layout t0 t1 P → Makes version layout t1 t2 Q
    → ((m n : Map) → HasSoundFiles version m → P m → Q m n → HasSoundFiles version n × case (files_of version m) answer (files_of version n))
    → Does version layout case t2.reads t2.writes answer
Does-made {A} {version} layout case t0 t1 t2 answer P Q told made shows = record {
  few = made.few;
  sound = λ m on_disk sound agrees. (both m on_disk sound agrees).0;
  answers = λ m on_disk sound agrees. (both m on_disk sound agrees).1;
}
  where
    both : (m : Map) → m.layout ≡ layout → HasSoundFiles version m → Agrees m t2.reads
        → HasSoundFiles version (overwritten m t2.writes) × case (files_of version m) answer (files_of version (overwritten m t2.writes))
    both m on_disk sound agrees =
        let seen : MayBeRead version layout t2.reads m = record { on_disk = on_disk; sound = sound; gives = Gives-Agrees m t2.reads agrees } in
        shows m (overwritten m t2.writes) sound (told.now m (made.before m seen)) (made.now m seen)

-- a bit's value is its test
pub bit_value : (v : List ℕ) → is_value_of Bit v ≡ true → v ≡ cond (get_or v 0 0 == 1) 1 0 ∷ []
bit_value [] is = cc
bit_value (b ∷ []) is = grind (arith, nat_tests)
bit_value (b ∷ d ∷ v) is =
    let e : suc (suc (length v)) ≡ 1 = eqb-true (suc (suc (length v))) 1 (and_parts (suc (suc (length v)) == 1) _ is).0 in
    absurd (omega arith)

-- nothing more was read
pub Tells-nothing : {version : FormatVersion} (layout : Shape) (t : TxnState) → LearnsThat version layout t t (λ m. Unit {0})
Tells-nothing {version} layout t = record { writes = refl; before = λ m seen. seen; now = λ m seen. tt }

-- What a transaction does that was told enough to answer, and only read
pub Does-told : {A : Type 0} {version : FormatVersion} (layout : Shape) (case : Files → A → Files → Type 0) (old t : TxnState) (answer : A) (P : Map → Type 0) → old.writes ≡ []
    → LearnsThat version layout old t P → ((m : Map) → HasSoundFiles version m → P m → case (files_of version m) answer (files_of version m))
    → Does version layout case t.reads t.writes answer
Does-told {version = version} layout case old t answer P none told shows =
    Does-made layout case t t t answer _ _ (Tells-nothing layout t)
    (record {
      few = few-none t.writes (told.writes ∙ none);
      before = λ m seen. seen;
      now = λ m seen. subst (λ ws. HasSoundFiles version (overwritten m ws) × case (files_of version m) answer (files_of version (overwritten m ws))) (sym (told.writes ∙ none))
          (seen.sound, shows m seen.sound (told.now m seen));
    })
    (λ m n sound nothing both. both)

-- what holds of each value that a call answers
pub IfOk-like : {A E : Type 0} (r : Result A E) (P Q : A → Type 0) → ((x : A) → P x → Q x) → IfOk r P → IfOk r Q
IfOk-like (Ok x) P Q like holds = like x holds
IfOk-like (Err e) P Q like holds = tt

-- what holds where a call succeeds
pub OnOk-like : {A E : Type 0} (r : Result A E) (P Q : Type 0) → (P → Q) → OnOk r P → OnOk r Q
OnOk-like (Ok x) P Q like holds = like holds
OnOk-like (Err e) P Q like holds = tt

-- who only read left the files as they were
pub Makes-same : {version : FormatVersion} (layout : Shape) (t0 t1 : TxnState) (P : Map → Type 0) → t0.writes ≡ [] → LearnsThat version layout t0 t1 P
    → Makes version layout t0 t1 (λ m n. HasSoundFiles version n × (files_of version n ≡ files_of version m))
Makes-same layout t0 t1 P none told = Makes-told layout t0 t1 P _ none told (λ m sound p. (sound, refl))

-- what is done where blocks are handed out, or where none are
pub Does-some : {A : Type 0} {version : FormatVersion} (layout : Shape) (case : Bool → Files → A → Files → Type 0) (t : TxnState) (answer : A) (room : Bool)
    → Does version layout (case room) t.reads t.writes answer → Does version layout (λ F r F2. (room : Bool) × case room F r F2) t.reads t.writes answer
Does-some layout case t answer room does = record {
  few = does.few;
  sound = does.sound;
  answers = λ m on_disk sound agrees. (room, does.answers m on_disk sound agrees);
}

-- what it makes that learned something before
pub Makes-after : {version : FormatVersion} (layout : Shape) (t0 t1 t2 : TxnState) (P : Map → Type 0) (Q R : Map → Map → Type 0) → LearnsThat version layout t0 t1 P → Makes version layout t1 t2 Q
    → ((m n : Map) → P m → Q m n → R m n) → Makes version layout t0 t2 R
Makes-after layout t0 t1 t2 P Q R told made shows = record {
  few = made.few;
  before = λ m seen. told.before m (made.before m seen);
  now = λ m seen. shows m _ (told.now m (made.before m seen)) (made.now m seen);
}
