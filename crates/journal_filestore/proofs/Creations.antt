-- CREATE, as its transaction makes it.
use Rattle.std.proofs.Common.{ℕ, ◌≡◌, ◌≢◌, ◌<◌, ◌≤◌, ◌+◌, ◌*◌, Bool, true, false, List, [], ◌∷◌, length, replicate, Option, Some, None, Result, Ok, Err, refl, sym, ap, subst, ◌∙◌, arith}
use Rattle.std.specs.Prelude.{unwrap_or}
use Rattle.std.proofs.lemmas.Bool.{cond-true, cond-false, eq-eqb, ne_eqb}
use Rattle.std.proofs.lemmas.List.{length-replicate}
use Rattle.journal_world.specs.declared.layout.TheConstants.{BLOCK_BYTES}
use Rattle.journal_world.specs.declared.moment.TheConstants.{MAX_NANOS}
use Rattle.journal_world.specs.Addresses.{Shape}
use Rattle.journal_world.specs.Maps.{Map}
use Rattle.journal_twophase.specs.Transactions.{TxnState}
use Rattle.journal_tail.specs.declared.limits.TheConstants.{MAX_UPDATES}
use Rattle.journal_inode.specs.declared.version.FormatVersion.{FormatVersion}
use Rattle.journal_inode.specs.declared.node.Time.{Time}
use Rattle.journal_inode.specs.declared.node.FileNode.{FileNode}
use Rattle.journal_inode.specs.declared.node.Node.{Node}
use Rattle.journal_inode.specs.declared.node.Node.TheVariants.{Free, Root, File}
use Rattle.journal_inode.specs.Nodes.{Fits}
use Rattle.journal_inode.specs.Versions.{most_bytes, extra_count}
use Rattle.journal_inode.specs.Sound.{node_at, content, IsSoundFile, HasSoundFiles}
use Rattle.journal_inode.proofs.Blocks.{more_fits}
use Rattle.journal_file_types.specs.declared.reply.Found.{Found}
use Rattle.journal_file_types.specs.declared.status.Status.{Status}
use Rattle.journal_file_types.specs.declared.status.Status.TheVariants.{Exists, TooBig, NoSpace, NotSupported}
use Rattle.journal_file_types.specs.declared.settings.NewTime.{NewTime}
use Rattle.journal_file_types.specs.declared.settings.NewTime.TheVariants.{Leave, Server, Client}
use Rattle.journal_file_types.specs.declared.settings.Settings.{Settings}
use Rattle.journal_file_types.specs.declared.settings.CreateMode.{CreateMode}
use Rattle.journal_file_types.specs.declared.settings.CreateMode.TheVariants.{Unchecked, Guarded, Exclusive}
use Rattle.journal_filestore.specs.Files.{FileData, Files, is_file_number, with_entry, entry_of, files_of}
use Rattle.journal_filestore.specs.Operations.{attributes, attributes_of_node, of_root, number_of_name, is_no_time, is_too_big, time_after, resized, with_settings, new_file, created, create_new, create_file, create_number, create_how, create_case, file_target}
use Rattle.journal_filestore.specs.declared.find.Target.{Target}
use Rattle.journal_filestore.specs.declared.find.Target.TheVariants.{Directory}
use Rattle.journal_filestore.specs.Handles.{data_of, asked, found_node, IsAt}
use Rattle.journal_filestore.specs.Doing.{LearnsThat, WritesEach, AreClear, AreFresh, file_written, Leads, Puts, Makes, Does}
use Rattle.journal_filestore.specs.Changes.{extra_blocks_of, LacksBlocks, HasChanged}
use Rattle.journal_filestore.proofs.Doings.{Makes-told, Makes-like, Tells-nothing, Tells-like, Tells-both, Does-made}
use Rattle.journal_filestore.proofs.FilesReplaced.{IsFileNumber-test}
use Rattle.journal_filestore.proofs.Finding.{entry_at, case-directory, IsAt-is}
use Rattle.journal_filestore.proofs.Answering.{no_root}
use Rattle.journal_filestore.proofs.Lasting.{Makes-each, length-file_written}
use Rattle.journal_filestore.proofs.Numbering.{absent_more}
use Rattle.journal_filestore.proofs.Changing.{IsNodeOf}
use Rattle.journal_filestore.proofs.Writings.{lacks, has_room}
use Rattle.journal_filestore.proofs.SettingCases.{attributes-set}
use Rattle.journal_filestore.proofs.Setting.{time_after-timed, size_fits}
use Rattle.journal_filestore.proofs.Creating.{Puts-created}

-- how it is asked for
pub create-unsupported : (version : FormatVersion) (room : Bool) (name : List ℕ) (how : CreateMode) (now : Time) (F : Files) → asked how ≡ None → create_how version room name how now F ≡ (Err NotSupported, F)
create-unsupported version room name Exclusive now F is = refl
create-unsupported version room name (Guarded s) now F is = absurd (let e : Some (s, true) ≡ None = is in cc)
create-unsupported version room name (Unchecked s) now F is = absurd (let e : Some (s, false) ≡ None = is in cc)

pub create-asked : (version : FormatVersion) (room : Bool) (name : List ℕ) (how : CreateMode) (now : Time) (F : Files) (x : Settings × Bool) → asked how ≡ Some x → create_how version room name how now F ≡ create_number version room x.1 x.0 now F (number_of_name name)
create-asked version room name Exclusive now F x is = absurd (let e : None ≡ Some x = is in cc)
create-asked version room name (Guarded s) now F x is =
    let e : (s, true) ≡ x = cc is in ap (λ (y : Settings × Bool). create_number version room y.1 y.0 now F (number_of_name name)) e
create-asked version room name (Unchecked s) now F x is =
    let e : (s, false) ≡ x = cc is in ap (λ (y : Settings × Bool). create_number version room y.1 y.0 now F (number_of_name name)) e

-- a number with a sound time goes by its file
pub create-file : (version : FormatVersion) (room guarded : Bool) (s : Settings) (now : Time) (m : Map) (j : ℕ) (n : Node) → is_no_time s.mtime ≡ false → is_file_number j ≡ true → node_at m j ≡ n
    → create_number version room guarded s now (files_of version m) (Some j) ≡ create_file version room guarded s now (files_of version m) j (entry_of version m n).file
create-file version room guarded s now m j n timed number is =
    cond-false _ _ _ timed ∙ ap (λ e. create_file version room guarded s now (files_of version m) j e.file) (entry_at version m j n number is)

-- A file that was made or set
created-puts : (version : FormatVersion) (m n : Map) (i : ℕ) (f : FileNode) (t : Time) (d : FileData) (generation : ℕ) (answer : Found) → (files_of version m).root ≡ t → answer ≡ found_node i f t → f.generation ≡ generation
    → attributes_of_node i f ≡ attributes i d → Puts version m n i (record { generation = f.generation; file = Some d })
    → (Ok answer, files_of version n) ≡ created (files_of version m) i generation d
created-puts version m n i f t d generation answer root_is told same attributes_are puts =
    ap (λ x. (Ok x, files_of version n)) told
    ∙ ap (λ x. (Ok (record { generation = f.generation; file = x; root = of_root t }), files_of version n)) attributes_are
    ∙ ap (λ x. (Ok (record { generation = f.generation; file = attributes i d; root = of_root x }), files_of version n)) (sym root_is)
    ∙ ap (λ x. (Ok (record { generation = f.generation; file = attributes i d; root = of_root (files_of version m).root }), x)) puts.files
    ∙ ap (λ x. (Ok (record { generation = x; file = attributes i d; root = of_root (files_of version m).root }), with_entry (files_of version m) i (record { generation = x; file = Some d }))) same

-- what is asked for is set of the file that is there
module _ (version : FormatVersion) (layout : Shape) (s : Settings) (now : Time) (j : ℕ) (f : FileNode) (t : Time) (number : is_file_number j ≡ true) (guarded : Bool) (t0 t1 : TxnState) where
  abbrev pub Sets : Result Found Status → Map → Map → Type 0
  Sets answer m n = node_at m j ≡ File f → (files_of version m).root ≡ t → (room : Bool) × Leads version n answer (create_file version room guarded s now (files_of version m) j (Some (data_of version m f)))

  pub Makes-over_exists : t0.writes ≡ [] → guarded ≡ true → Makes version layout t0 t0 (Sets (Err Exists))
  Makes-over_exists fresh is_guarded =
      Makes-told layout t0 t0 _ _ fresh (Tells-nothing layout t0) (λ m sound nothing is root_is. (true, (sound, sym (cond-true _ _ _ is_guarded))))

  pub Makes-over_too_big : t0.writes ≡ [] → guarded ≡ false → is_too_big version s.size ≡ true → Makes version layout t0 t0 (Sets (Err TooBig))
  Makes-over_too_big fresh free big =
      Makes-told layout t0 t0 _ _ fresh (Tells-nothing layout t0) (λ m sound nothing is root_is. (true, (sound, sym (cond-false _ _ _ free ∙ cond-true _ _ _ big))))

  -- it needs blocks that are not handed out
  pub Makes-over_no_space : t0.writes ≡ [] → guarded ≡ false → is_too_big version s.size ≡ false → LacksBlocks version layout t0 t1 f.size (unwrap_or s.size f.size) → Makes version layout t0 t1 (Sets (Err NoSpace))
  Makes-over_no_space fresh free small short =
      Makes-told layout t0 t1 _ _ fresh short.told
      (λ m sound nothing is root_is.
      let whole : IsSoundFile version m f = sound.files j f (IsFileNumber-test j number).to is in (
        false,
        (
          sound,
          sym (cond-false _ _ _ free ∙ cond-false _ _ _ small
              ∙ cond-true _ _ _ (lacks version _ _ (subst (λ k. extra_count version k < extra_count version (unwrap_or s.size k)) (sym whole.whole) short.needed))),
        ),
      ))

  pub Makes-over : (g : FileNode) (answer : Found) → guarded ≡ false → is_too_big version s.size ≡ false → answer ≡ found_node j g t
      → HasChanged version layout t0 t1 j f (unwrap_or s.size f.size) (time_after s.size s.mtime now f.mtime) (λ m. resized (content version m f) s.size) g
      → Makes version layout t0 t1 (Sets (Ok answer))
  Makes-over g answer free small told changed =
      Makes-like layout t0 t1 _ _
      (λ m n sound puts here root_is.
      let whole : IsSoundFile version m f = sound.files j f (IsFileNumber-test j number).to here in
      let same : g.generation ≡ f.generation = changed.generation in (
        true,
        (
          (puts number here).sound,
          created-puts version m n j g t (with_settings (data_of version m f) s now) ((files_of version m).at j).generation answer root_is told
              (same ∙ sym (ap (λ e. e.generation) (entry_at version m j (File f) number here)))
              (attributes-set version m j f g s now whole changed.attributes)
              (subst (λ x. Puts version m n j (record { generation = x; file = Some (with_settings (data_of version m f) s now) })) (sym same) (puts number here))
              ∙ sym (cond-false _ _ _ free ∙ cond-false _ _ _ small ∙ cond-false _ _ _ (has_room version (length (content version m f)) (unwrap_or s.size (length (content version m f))))),
        ),
      ))
      changed.makes

-- without a time given it is the moment's, whether a size is given or not
pub time_of_new : (size : Option ℕ) (t : NewTime) (now old : Time) → old ≡ now → time_after size t now old ≡ time_after (Some 0) t now now
time_of_new size (Client t) now old is = refl
time_of_new size Server now old is = refl
time_of_new (Some n) Leave now old is = refl
time_of_new None Leave now old is = is

module _ (version : FormatVersion) (layout : Shape) (s : Settings) (now : Time) (j last : ℕ) (t : Time) (number : is_file_number j ≡ true) (timed : is_no_time s.mtime ≡ false) (t0 : TxnState) (fresh : t0.writes ≡ []) where
  abbrev pub News : Result Found Status → Map → Map → Type 0
  News answer m n = node_at m j ≡ Free last → (files_of version m).root ≡ t → (room : Bool) × Leads version n answer (create_new version room s now (files_of version m) j)

  generation_is : (m : Map) → node_at m j ≡ Free last → ((files_of version m).at j).generation ≡ last
  generation_is m is = ap (λ e. e.generation) (entry_at version m j (Free last) number is)

  pub Makes-too_big : is_too_big version s.size ≡ true → Makes version layout t0 t0 (News (Err TooBig))
  Makes-too_big big =
      Makes-told layout t0 t0 _ _ fresh (Tells-nothing layout t0) (λ m sound nothing is root_is. (true, (sound, sym (cond-true _ _ _ big))))

  pub Makes-worn : is_too_big version s.size ≡ false → last ≡ 4294967295 → Makes version layout t0 t0 (News (Err NoSpace))
  Makes-worn small worn =
      Makes-told layout t0 t0 _ _ fresh (Tells-nothing layout t0)
      (λ m sound nothing is root_is. (true, (sound, sym (cond-false _ _ _ small ∙ cond-true _ _ _ (eq-eqb _ 4294967295 (generation_is m is ∙ worn))))))

  pub Makes-no_space : (t1 : TxnState) (P : Map → Type 0) → is_too_big version s.size ≡ false → LearnsThat version layout t0 t1 P → Makes version layout t0 t1 (News (Err NoSpace))
  Makes-no_space t1 P small told =
      Makes-told layout t0 t1 P _ fresh told (λ m sound p is root_is. (false, (sound, sym (cond-false _ _ _ small))))

  -- blocks are found free; they, their bits and the inode are overwritten
  pub Makes-new : (rest bytes : List ℕ) (f : FileNode) (answer : Found) (t1 t2 : TxnState) → is_too_big version s.size ≡ false → last ≢ 4294967295 → now.nanos ≤ MAX_NANOS
      → LearnsThat version layout t0 t1 (λ m. AreClear m (f.block ∷ rest)) → AreFresh (1 + extra_count version (unwrap_or s.size 0)) (f.block ∷ rest)
      → WritesEach layout t1 t2 (file_written j f (f.block ∷ rest) (f.block ∷ rest) bytes) → bytes ≡ replicate (BLOCK_BYTES * (1 + extra_count version (unwrap_or s.size 0))) 0
      → f.generation ≡ last + 1 → f.size ≡ unwrap_or s.size 0 → f.mtime ≡ time_after (Some 0) s.mtime now now → f.more ≡ extra_blocks_of rest [] → Fits (File f) → answer ≡ found_node j f t
      → Makes version layout t0 t2 (News (Ok answer))
  Makes-new rest bytes f answer t1 t2 small young in_second told new_ones wrote zeros_are born_is size_is mtime_is more_is fits answered =
      Makes-each layout t0 t1 t2 _ _ (file_written j f (f.block ∷ rest) (f.block ∷ rest) bytes) fresh told wrote few
      (λ m after sound clear becomes here root_is.
      let puts : Puts version m after j (record { generation = f.generation; file = Some (record { bytes = replicate f.size 0; mtime = f.mtime }) }) =
      Puts-created version m after j last f rest bytes number sound here more_is node new_size clear (zeros_are ∙ ap (λ k. replicate (BLOCK_BYTES * (1 + extra_count version k)) 0) (sym size_is)) becomes in (
        true,
        (
          puts.sound,
          created-puts version m after j f t (new_file s now) (((files_of version m).at j).generation + 1) answer root_is answered
              (born_is ∙ sym (ap (λ n. n + 1) (generation_is m here)))
              (ap (λ x. record { number = j; size = x; mtime = f.mtime }) (sym (length-replicate {A = ℕ} f.size 0)) ∙ ap (attributes j) data_is)
              (subst (λ x. Puts version m after j (record { generation = f.generation; file = Some x })) data_is puts)
              ∙ sym (cond-false _ _ _ small ∙ cond-false _ _ _ (ne_eqb _ 4294967295 (λ e. young (sym (generation_is m here) ∙ e)))),
        ),
      ))
    where
      fits_file : f.size ≤ most_bytes version
      fits_file = subst (λ k. k ≤ most_bytes version) (sym size_is) (size_fits version s.size 0 small (omega arith))

      new_size : AreFresh (1 + extra_count version f.size) (f.block ∷ rest)
      new_size = subst (λ k. AreFresh (1 + extra_count version k) (f.block ∷ rest)) (sym size_is) new_ones

      few : length (file_written j f (f.block ∷ rest) (f.block ∷ rest) bytes) ≤ MAX_UPDATES
      few = omega (arith, length-file_written j f (f.block ∷ rest) (f.block ∷ rest) bytes, new_size.count, more_fits version f.size fits_file)

      data_is : record { bytes = replicate f.size 0; mtime = f.mtime } ≡ new_file s now
      data_is = ap (λ k. record { bytes = replicate k 0; mtime = f.mtime }) size_is ∙ ap (λ x. record { bytes = replicate (unwrap_or s.size 0) 0; mtime = x }) mtime_is

      node : IsNodeOf version f (replicate f.size 0)
      node = record {
        born = omega (arith, born_is);
        size = sym (length-replicate {A = ℕ} f.size 0);
        small = subst (λ k. k ≤ most_bytes version) (sym (length-replicate {A = ℕ} f.size 0)) fits_file;
        timed = subst (λ x. x.nanos ≤ MAX_NANOS) (sym mtime_is) (time_after-timed (Some 0) s.mtime now now timed in_second in_second);
        absent = absent_more version f rest [] more_is (omega (arith, new_size.count));
        fits = fits;
      }

  -- so many were taken
  pub Makes-new_taken : (taken rest bytes : List ℕ) (f : FileNode) (answer : Found) (took : Bool) (t1 t2 : TxnState) → is_too_big version s.size ≡ false → last ≢ 4294967295 → now.nanos ≤ MAX_NANOS
      → took ≡ true → LearnsThat version layout t0 t1 (λ m. took ≡ true → AreClear m taken) → taken ≡ f.block ∷ rest → AreFresh (1 + extra_count version (unwrap_or s.size 0)) taken
      → WritesEach layout t1 t2 (file_written j f taken taken bytes) → bytes ≡ replicate (BLOCK_BYTES * (1 + extra_count version (unwrap_or s.size 0))) 0
      → f.generation ≡ last + 1 → f.size ≡ unwrap_or s.size 0 → f.mtime ≡ time_after (Some 0) s.mtime now now → f.more ≡ extra_blocks_of rest [] → Fits (File f) → answer ≡ found_node j f t
      → Makes version layout t0 t2 (News (Ok answer))
  Makes-new_taken taken rest bytes f answer took t1 t2 small young in_second is_taken told taken_is new_ones wrote zeros_are born_is size_is mtime_is more_is fits answered =
      Makes-new rest bytes f answer t1 t2 small young in_second
      (subst (λ xs. LearnsThat version layout t0 t1 (λ m. AreClear m xs)) taken_is (Tells-like layout t0 t1 _ _ (λ m sound clear. clear is_taken) told))
      (subst (AreFresh (1 + extra_count version (unwrap_or s.size 0))) taken_is new_ones)
      (subst (λ xs. WritesEach layout t1 t2 (file_written j f xs xs bytes)) taken_is wrote)
      zeros_are born_is size_is mtime_is more_is fits answered

-- The case with some room
abbrev pub CaseOf : FormatVersion → List ℕ → CreateMode → Time → ℕ → ℕ → Files → Result Found Status → Files → Type 0
CaseOf version name how now i generation F r F2 = (room : Bool) × ((r, F2) ≡ create_case version room name how now F (file_target F i generation))

-- what it does whatever room there is
pub Does-room : (version : FormatVersion) (layout : Shape) (name : List ℕ) (how : CreateMode) (now : Time) (i generation : ℕ) (t : TxnState) (answer : Result Found Status) (room : Bool)
    → Does version layout (λ F r F2. (r, F2) ≡ create_case version room name how now F (file_target F i generation)) t.reads t.writes answer
    → Does version layout (CaseOf version name how now i generation) t.reads t.writes answer
Does-room version layout name how now i generation t answer room does = record {
  few = does.few;
  sound = does.sound;
  answers = λ m on_disk sound agrees. (room, does.answers m on_disk sound agrees);
}

-- what it does by the inode that it read in the root
pub Does-tail : (version : FormatVersion) (layout : Shape) (name : List ℕ) (how : CreateMode) (now : Time) (i generation : ℕ) (p : Target) (t : Time) (j : ℕ) (n : Node) (t0 t1 t2 t3 : TxnState) (answer : Result Found Status) (Q : Map → Map → Type 0)
    → LearnsThat version layout t0 t1 (λ m. IsAt version i generation m p) → p ≡ Directory t → LearnsThat version layout t1 t2 (λ m. node_at m j ≡ n) → Makes version layout t2 t3 Q
    → ((m after : Map) → HasSoundFiles version m → (files_of version m).root ≡ t → node_at m j ≡ n → Q m after → HasSoundFiles version after × ((room : Bool) × ((answer, files_of version after) ≡ create_how version room name how now (files_of version m))))
    → Does version layout (CaseOf version name how now i generation) t3.reads t3.writes answer
Does-tail version layout name how now i generation p t j n t0 t1 t2 t3 answer Q found is read made shows =
    Does-made layout (CaseOf version name how now i generation) t0 t2 t3 answer _ Q (Tells-both layout t0 t1 t2 _ _ found read) made
    (λ m after sound told q.
    let both = shows m after sound (IsAt-is version m i generation p (Directory t) is told.0).1 told.1 q in (
      both.0,
      (both.1.0, both.1.1 ∙ sym (case-directory version (create_case version both.1.0 name how now (files_of version m)) m i generation p t is told.0)),
    ))

-- In the root, with a name and a time, it goes by the number's inode
module _ (version : FormatVersion) (name : List ℕ) (how : CreateMode) (s : Settings) (guarded : Bool) (now : Time) (j : ℕ) (how_is : asked how ≡ Some (s, guarded)) (named : Some j ≡ number_of_name name) (timed : is_no_time s.mtime ≡ false) (number : is_file_number j ≡ true) where
  create-node : (room : Bool) (m : Map) (n : Node) → node_at m j ≡ n
      → create_how version room name how now (files_of version m) ≡ create_file version room guarded s now (files_of version m) j (entry_of version m n).file
  create-node room m n is =
      create-asked version room name how now (files_of version m) (s, guarded) how_is
      ∙ ap (create_number version room guarded s now (files_of version m)) (sym named)
      ∙ create-file version room guarded s now m j n timed number is

  -- no sound map has the root there
  pub create-at_root : (m after : Map) (t : Time) (answer : Result Found Status) → HasSoundFiles version m → node_at m j ≡ Root t
      → HasSoundFiles version after × ((room : Bool) × ((answer, files_of version after) ≡ create_how version room name how now (files_of version m)))
  create-at_root m after t answer sound is = absurd (no_root m j t sound number is)

  pub create-at_file : (m after : Map) (f : FileNode) (answer : Result Found Status) → node_at m j ≡ File f → (room : Bool) × Leads version after answer (create_file version room guarded s now (files_of version m) j (Some (data_of version m f)))
      → HasSoundFiles version after × ((room : Bool) × ((answer, files_of version after) ≡ create_how version room name how now (files_of version m)))
  create-at_file m after f answer is leads = (leads.1.0, (leads.0, leads.1.1 ∙ sym (create-node leads.0 m (File f) is)))

  pub create-at_free : (m after : Map) (last : ℕ) (answer : Result Found Status) → node_at m j ≡ Free last → (room : Bool) × Leads version after answer (create_new version room s now (files_of version m) j)
      → HasSoundFiles version after × ((room : Bool) × ((answer, files_of version after) ≡ create_how version room name how now (files_of version m)))
  create-at_free m after last answer is leads = (leads.1.0, (leads.0, leads.1.1 ∙ sym (create-node leads.0 m (Free last) is)))
