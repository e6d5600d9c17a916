-- What many writes leave, one after another.
use Rattle.std.proofs.Common.{ℕ, suc, ◌≡◌, ◌≤◌, ◌+◌, ◌*◌, ◌-◌, ◌⊎◌, inl, inr, Bool, true, false, cond, ◌==◌, List, [], ◌∷◌, ◌++◌, length, take, drop, Option, Some, None, refl, sym, ap, subst, ◌∙◌, arith, length-append}
use Rattle.std.specs.Prelude.{unwrap_or}
use Rattle.std.specs.List.{AllByRecursion}
use Rattle.std.proofs.lemmas.Bool.{eq-eqb, ne_eqb}
use Rattle.std.proofs.lemmas.List.{length-drop, take-append-drop, length-take-le}
use Rattle.journal_world.specs.declared.layout.TheConstants.{BLOCK_BYTES, FIRST_DATA}
use Rattle.journal_world.specs.Addresses.{Value, Shape}
use Rattle.journal_world.specs.Maps.{Map}
use Rattle.journal_twophase.specs.Transactions.{TxnState}
use Rattle.journal_tail.specs.declared.limits.TheConstants.{MAX_UPDATES}
use Rattle.journal_inode.specs.declared.version.FormatVersion.{FormatVersion}
use Rattle.journal_inode.specs.Places.{Object, IsOnDisk, is_same_object, object}
use Rattle.journal_inode.specs.Places.Object.{superblock, bit, inode, block}
use Rattle.journal_inode.specs.declared.node.FileNode.{FileNode}
use Rattle.journal_inode.specs.declared.node.Node.TheVariants.{File}
use Rattle.journal_inode.specs.Nodes.{inode_bytes}
use Rattle.journal_inode.specs.Sound.{held, HasSoundFiles}
use Rattle.journal_filestore.specs.Doing.{Write, MayBeRead, LearnsThat, WritesObject, WritesEach, bits_written, blocks_written, file_written, Makes}
use Rattle.journal_filestore.proofs.Overwrites.{or_else, written_to, Overwrites}
use Rattle.journal_filestore.proofs.Doings.{HasWritten, HasWritten-none, HasWritten-more, Makes-written}
use Rattle.journal_filestore.proofs.Among.{Among, Distinct, held_cons}

-- the value that the last write of an object gives it
abbrev pub last_written : List Write → Object → Option Value
last_written [] o = None
last_written (w ∷ ws) o = or_else (last_written ws o) (cond (is_same_object o w.0) (Some w.1) None)

-- the writes, the last first, before others
abbrev pub last_first : List Write → List Write → List Write
last_first [] before = before
last_first (w ∷ ws) before = last_first ws (w ∷ before)

or_none : {A : Type 0} (p : Option A) → or_else p None ≡ p
or_none None = refl
or_none (Some x) = refl

or_assoc : {A : Type 0} (p q r : Option A) → or_else (or_else p q) r ≡ or_else p (or_else q r)
or_assoc None q r = refl
or_assoc (Some x) q r = refl

or_cond : {A : Type 0} (p : Option A) (t : Bool) (x : A) (q : Option A) → or_else p (cond t (Some x) q) ≡ or_else (or_else p (cond t (Some x) None)) q
or_cond None true x q = refl
or_cond None false x q = refl
or_cond (Some y) t x q = refl

unwrap_cond : {A : Type 0} (p : Option A) (t : Bool) (x z : A) → unwrap_or (or_else p (cond t (Some x) None)) z ≡ unwrap_or p (cond t x z)
unwrap_cond None true x z = refl
unwrap_cond None false x z = refl
unwrap_cond (Some y) t x z = refl

written_last : (ws before : List Write) (o : Object) → written_to (last_first ws before) o ≡ or_else (last_written ws o) (written_to before o)
written_last [] before o = refl
written_last (w ∷ ws) before o = written_last ws (w ∷ before) o ∙ or_cond (last_written ws o) (is_same_object o w.0) w.1 (written_to before o)

pub last_append : (ws vs : List Write) (o : Object) → last_written (ws ++ vs) o ≡ or_else (last_written vs o) (last_written ws o)
last_append [] vs o = sym (or_none (last_written vs o))
last_append (w ∷ ws) vs o =
    ap (λ p. or_else p (cond (is_same_object o w.0) (Some w.1) None)) (last_append ws vs o)
    ∙ or_assoc (last_written vs o) (last_written ws o) (cond (is_same_object o w.0) (Some w.1) None)

length-last_first : (ws before : List Write) → length (last_first ws before) ≡ length ws + length before
length-last_first [] before = omega arith
length-last_first (w ∷ ws) before = let rest : length (last_first ws (w ∷ before)) ≡ length ws + length (w ∷ before) = length-last_first ws (w ∷ before) in omega (arith, rest)

-- the objects of n are those of m, or what the last write of them gave
pub record Becomes (m n : Map) (ws : List Write) : Type 0 where
  pub layout : n.layout ≡ m.layout
  pub objects : (o : Object) → IsOnDisk m.layout.blocks o → object n o ≡ unwrap_or (last_written ws o) (object m o)

Becomes-overwrites : (m n : Map) (ws : List Write) → Overwrites m n (last_first ws []) → Becomes m n ws
Becomes-overwrites m n ws is = record {
  layout = is.layout;
  objects = λ o here. is.objects o here ∙ ap (λ p. unwrap_or p (object m o)) (written_last ws [] o ∙ or_none (last_written ws o));
}

HasWritten-each : (layout : Shape) (old new : TxnState) (ws before : List Write) → WritesEach layout old new ws → HasWritten layout old before → HasWritten layout new (last_first ws before)
HasWritten-each layout old new [] before wrote had = subst (λ t. HasWritten layout t before) (sym wrote) had
HasWritten-each layout old new (w ∷ ws) before wrote had =
    HasWritten-each layout wrote.0 new ws (w ∷ before) wrote.2 (HasWritten-more layout old wrote.0 w.0 w.1 before wrote.1 had)

same_reads : (layout : Shape) (old new : TxnState) (ws : List Write) → WritesEach layout old new ws → new.reads ≡ old.reads
same_reads layout old new [] wrote = ap (λ t. t.reads) wrote
same_reads layout old new (w ∷ ws) wrote = same_reads layout wrote.0 new ws wrote.2 ∙ wrote.1.reads

-- one more is written, and many more are
pub WritesEach-append : (layout : Shape) (old middle new : TxnState) (ws vs : List Write) → WritesEach layout old middle ws → WritesEach layout middle new vs → WritesEach layout old new (ws ++ vs)
WritesEach-append layout old middle new [] vs first second = subst (λ t. WritesEach layout t new vs) first second
WritesEach-append layout old middle new (w ∷ ws) vs first second = (first.0, first.1, WritesEach-append layout first.0 middle new ws vs first.2 second)

pub WritesEach-one : (layout : Shape) (old new : TxnState) (o : Object) (v : Value) → WritesObject layout old new o v → WritesEach layout old new ((o, v) ∷ [])
WritesEach-one layout old new o v wrote = (new, wrote, refl)

-- What a transaction makes that learned something, and then overwrote many objects
pub Makes-each : {version : FormatVersion} (layout : Shape) (t0 t1 t2 : TxnState) (P : Map → Type 0) (Q : Map → Map → Type 0) (ws : List Write) → t0.writes ≡ []
    → LearnsThat version layout t0 t1 P → WritesEach layout t1 t2 ws → length ws ≤ MAX_UPDATES
    → ((m n : Map) → HasSoundFiles version m → P m → Becomes m n ws → Q m n) → Makes version layout t0 t2 Q
Makes-each {version} layout t0 t1 t2 P Q ws none told wrote short shows =
    Makes-written layout t0 t2 Q (last_first ws [])
    (HasWritten-each layout t1 t2 ws [] wrote (HasWritten-none layout t1 (told.writes ∙ none)))
    (λ m seen. told.before m (back m seen))
    (λ m n seen is. shows m n seen.sound (told.now m (back m seen)) (Becomes-overwrites m n ws is))
    (omega (arith, short, length-last_first ws []))
  where
    back : (m : Map) → MayBeRead version layout t2.reads m → MayBeRead version layout t1.reads m
    back m seen = subst (λ rs. MayBeRead version layout rs m) (same_reads layout t1 t2 ws wrote) seen

-- bits are written with one value
bits_value : (v : ℕ) (bs : List ℕ) (k : ℕ) → (last_written (bits_written v bs) (bit k) ≡ None) ⊎ (last_written (bits_written v bs) (bit k) ≡ Some (v ∷ []))
bits_value v [] k = inl refl
bits_value v (b ∷ bs) k = by_rest (last_written (bits_written v bs) (bit k)) (k == b - FIRST_DATA) (bits_value v bs k)
  where
    by_rest : (p : Option Value) (t : Bool) → (p ≡ None) ⊎ (p ≡ Some (v ∷ [])) → (or_else p (cond t (Some (v ∷ [])) None) ≡ None) ⊎ (or_else p (cond t (Some (v ∷ [])) None) ≡ Some (v ∷ []))
    by_rest p true (inl none) = inr (ap (λ q. or_else q (Some (v ∷ []))) none)
    by_rest p false (inl none) = inl (ap (λ q. or_else q None) none)
    by_rest p t (inr some) = inr (ap (λ q. or_else q (cond t (Some (v ∷ [])) None)) some)

pub bits_hit : (v : ℕ) (bs : List ℕ) (k : ℕ) → Among bs (FIRST_DATA + k) → last_written (bits_written v bs) (bit k) ≡ Some (v ∷ [])
bits_hit v [] k has = absurd has
bits_hit v (b ∷ bs) k (inl is) =
    ap (λ t. or_else (last_written (bits_written v bs) (bit k)) (cond t (Some (v ∷ [])) None)) (eq-eqb k (b - FIRST_DATA) (omega (arith, is)))
    ∙ by_value (last_written (bits_written v bs) (bit k)) (bits_value v bs k)
  where
    by_value : (p : Option Value) → (p ≡ None) ⊎ (p ≡ Some (v ∷ [])) → or_else p (Some (v ∷ [])) ≡ Some (v ∷ [])
    by_value p (inl none) = ap (λ q. or_else q (Some (v ∷ []))) none
    by_value p (inr some) = ap (λ q. or_else q (Some (v ∷ []))) some
bits_hit v (b ∷ bs) k (inr has) = ap (λ p. or_else p (cond (k == b - FIRST_DATA) (Some (v ∷ [])) None)) (bits_hit v bs k has)

pub bits_miss : (v : ℕ) (bs : List ℕ) (k : ℕ) → ((b : ℕ) → Among bs b → FIRST_DATA ≤ b) → (Among bs (FIRST_DATA + k) → ⊥) → last_written (bits_written v bs) (bit k) ≡ None
bits_miss v [] k from lacks = refl
bits_miss v (b ∷ bs) k from lacks =
    ap (λ p. or_else p (cond (k == b - FIRST_DATA) (Some (v ∷ [])) None)) (bits_miss v bs k (λ c has. from c (inr has)) (λ has. lacks (inr has)))
    ∙ ap (λ t. cond t (Some (v ∷ [])) None) (ne_eqb k (b - FIRST_DATA) (λ is. lacks (inl (let low : FIRST_DATA ≤ b = from b (inl refl) in omega (arith, low, is)))))

pub bits_superblock : (v : ℕ) (bs : List ℕ) → last_written (bits_written v bs) superblock ≡ None
bits_superblock v [] = refl
bits_superblock v (b ∷ bs) = ap (λ p. or_else p None) (bits_superblock v bs)

pub bits_inode : (v : ℕ) (bs : List ℕ) (j : ℕ) → last_written (bits_written v bs) (inode j) ≡ None
bits_inode v [] j = refl
bits_inode v (b ∷ bs) j = ap (λ p. or_else p None) (bits_inode v bs j)

pub bits_block : (v : ℕ) (bs : List ℕ) (c : ℕ) → last_written (bits_written v bs) (block c) ≡ None
bits_block v [] c = refl
bits_block v (b ∷ bs) c = ap (λ p. or_else p None) (bits_block v bs c)

pub blocks_superblock : (bs bytes : List ℕ) → last_written (blocks_written bs bytes) superblock ≡ None
blocks_superblock [] bytes = refl
blocks_superblock (b ∷ bs) bytes = ap (λ p. or_else p None) (blocks_superblock bs (drop BLOCK_BYTES bytes))

pub blocks_inode : (bs bytes : List ℕ) (j : ℕ) → last_written (blocks_written bs bytes) (inode j) ≡ None
blocks_inode [] bytes j = refl
blocks_inode (b ∷ bs) bytes j = ap (λ p. or_else p None) (blocks_inode bs (drop BLOCK_BYTES bytes) j)

pub blocks_bit : (bs bytes : List ℕ) (k : ℕ) → last_written (blocks_written bs bytes) (bit k) ≡ None
blocks_bit [] bytes k = refl
blocks_bit (b ∷ bs) bytes k = ap (λ p. or_else p None) (blocks_bit bs (drop BLOCK_BYTES bytes) k)

pub blocks_miss : (bs bytes : List ℕ) (c : ℕ) → (Among bs c → ⊥) → last_written (blocks_written bs bytes) (block c) ≡ None
blocks_miss [] bytes c lacks = refl
blocks_miss (b ∷ bs) bytes c lacks =
    ap (λ p. or_else p (cond (c == b) (Some (take BLOCK_BYTES bytes)) None)) (blocks_miss bs (drop BLOCK_BYTES bytes) c (λ has. lacks (inr has)))
    ∙ ap (λ t. cond t (Some (take BLOCK_BYTES bytes)) None) (ne_eqb c b (λ is. lacks (inl (sym is))))

pub no_length : (bytes : List ℕ) → length bytes ≡ 0 → bytes ≡ []
no_length [] none = refl
no_length (x ∷ xs) none = absurd (omega (arith, none))

-- distinct blocks hold the bytes that were written to them
pub blocks_hold : (n : Map) (bs bytes : List ℕ) (before : ℕ → Value) → Distinct bs → length bytes ≡ BLOCK_BYTES * length bs
    → ((b : ℕ) → Among bs b → object n (block b) ≡ unwrap_or (last_written (blocks_written bs bytes) (block b)) (before b))
    → (held n bs ≡ bytes) × AllByRecursion (λ b. length (object n (block b)) ≡ BLOCK_BYTES) bs
blocks_hold n [] bytes before distinct whole are = (sym (no_length bytes (omega (arith, whole))), tt)
blocks_hold n (x ∷ xs) bytes before distinct whole are =
    let rest = blocks_hold n xs (drop BLOCK_BYTES bytes) (λ b. cond (b == x) (take BLOCK_BYTES bytes) (before b)) distinct.1
    (length-drop BLOCK_BYTES bytes ∙ (omega (arith, whole)))
    (λ b has. are b (inr has) ∙ unwrap_cond (last_written (blocks_written xs (drop BLOCK_BYTES bytes)) (block b)) (b == x) (take BLOCK_BYTES bytes) (before b)) in (
      held_cons n x xs ∙ ap (λ v. v ++ held n xs) first ∙ ap (λ v. take BLOCK_BYTES bytes ++ v) rest.0 ∙ take-append-drop BLOCK_BYTES bytes,
      (ap length first ∙ length-take-le BLOCK_BYTES bytes (omega (arith, whole)), rest.1),
    )
  where
    first : object n (block x) ≡ take BLOCK_BYTES bytes
    first =
        are x (inl refl)
        ∙ ap (λ p. unwrap_or (or_else p (cond (x == x) (Some (take BLOCK_BYTES bytes)) None)) (before x)) (blocks_miss xs (drop BLOCK_BYTES bytes) x distinct.0)
        ∙ ap (λ t. unwrap_or (cond t (Some (take BLOCK_BYTES bytes)) None) (before x)) (eq-eqb x x refl)

-- how many objects are written
pub length-bits : (v : ℕ) (bs : List ℕ) → length (bits_written v bs) ≡ length bs
length-bits v [] = refl
length-bits v (b ∷ bs) = ap suc (length-bits v bs)

pub length-blocks_written : (bs bytes : List ℕ) → length (blocks_written bs bytes) ≡ length bs
length-blocks_written [] bytes = refl
length-blocks_written (b ∷ bs) bytes = ap suc (length-blocks_written bs (drop BLOCK_BYTES bytes))

pub length-file_written : (i : ℕ) (f : FileNode) (fresh bs bytes : List ℕ) → length (file_written i f fresh bs bytes) ≡ length fresh + length bs + 1
length-file_written i f fresh bs bytes =
    let all : length (file_written i f fresh bs bytes) ≡ length (bits_written 1 fresh) + length (blocks_written bs bytes ++ (inode i, inode_bytes (File f)) ∷ []) =
    length-append (bits_written 1 fresh) (blocks_written bs bytes ++ (inode i, inode_bytes (File f)) ∷ []) in
    let later : length (blocks_written bs bytes ++ (inode i, inode_bytes (File f)) ∷ []) ≡ length (blocks_written bs bytes) + 1 = length-append (blocks_written bs bytes) ((inode i, inode_bytes (File f)) ∷ []) in
    omega (arith, all, later, length-bits 1 fresh, length-blocks_written bs bytes)
