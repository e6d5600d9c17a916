-- The laws of the arguments' items.
use Rattle.std.proofs.Common.{◌≡◌, ℕ, zero, suc, refl, Option, Some, List}
use Rattle.journal_xdr.specs.Items.{IsGrammar}
use Rattle.journal_xdr.specs.Basic.{word, hyper, fixed}
use Rattle.journal_xdr.specs.ItemLaws.{pair_laws, made_laws, some_is, tagged_laws, only_laws, never_laws, variant_laws}
use Rattle.journal_xdr.specs.BasicLaws.{word_laws, hyper_laws, fixed_laws, opaque_laws, string_laws, optional_laws, enumeration_laws}
use Rattle.journal_inode.specs.declared.node.Time.{Time}
use Rattle.journal_file_types.specs.declared.settings.NewTime.{NewTime}
use Rattle.journal_file_types.specs.declared.settings.NewTime.TheVariants.{Leave, Server, Client}
use Rattle.journal_nfs3_wire.specs.declared.arguments.NewAttributes.{NewAttributes}
use Rattle.journal_nfs3_wire.specs.declared.arguments.StableHow.{StableHow}
use Rattle.journal_nfs3_wire.specs.declared.procedure.Procedure.{Procedure}
use Rattle.journal_nfs3_wire.specs.declared.procedure.Procedure.TheVariants as procedure
use Rattle.journal_nfs3_wire.specs.Arguments.{time, client_time, time_how, new_time_arm, new_time, new_attributes, DirectoryEntry, entry, stable_how, stable_how_of, stable_how_number, stable_how_back, How, Unchecked, Guarded, Exclusive, unchecked_part, guarded_part, exclusive_part, how_arm, how_number, how, Operation, Null, GetAttributes, SetAttributes, Lookup, Read, Write, Create, Remove, Commit, get_attributes_part, set_attributes_part, lookup_part, read_part, write_part, create_part, remove_part, commit_part, arguments}

pub time_laws : IsGrammar time
unfolding time
time_laws = made_laws _ _ _ (pair_laws _ _ word_laws word_laws) (λ p. refl) (λ t. refl)

is_client : (v : NewTime) (t : Time) → client_time v ≡ Some t → Client t ≡ v
is_client Leave t e = absurd cc
is_client Server t e = absurd cc
is_client (Client u) t e = cc

arm_laws : (how : ℕ) → IsGrammar (new_time_arm how)
arm_laws zero = only_laws Leave
arm_laws (suc zero) = only_laws Server
arm_laws (suc (suc zero)) = variant_laws time (λ t. Client t) client_time time_laws (λ t. refl) is_client
arm_laws (suc (suc (suc n))) = never_laws

arm_is : (how : ℕ) (v : NewTime) → (new_time_arm how).Has v → time_how v ≡ how
arm_is zero Leave h = refl
arm_is zero Server h = absurd cc
arm_is zero (Client t) h = absurd cc
arm_is (suc zero) Leave h = absurd cc
arm_is (suc zero) Server h = refl
arm_is (suc zero) (Client t) h = absurd cc
arm_is (suc (suc zero)) Leave h = absurd h
arm_is (suc (suc zero)) Server h = absurd h
arm_is (suc (suc zero)) (Client t) h = refl
arm_is (suc (suc (suc n))) v h = absurd h

pub new_time_laws : IsGrammar new_time
unfolding new_time
new_time_laws = tagged_laws word new_time_arm time_how word_laws arm_laws arm_is

pub new_attributes_laws : IsGrammar new_attributes
unfolding new_attributes
new_attributes_laws =
    let number = optional_laws word word_laws in
    made_laws _ _ _ (pair_laws _ _ number (pair_laws _ _ number (pair_laws _ _ number (pair_laws _ _ (optional_laws hyper hyper_laws) (pair_laws _ _ new_time_laws new_time_laws))))) (λ p. refl) (λ a. refl)

pub entry_laws : IsGrammar entry
unfolding entry
entry_laws = made_laws _ _ _ (pair_laws _ _ (opaque_laws 64) (string_laws 4294967295)) (λ p. refl) (λ e. refl)

pub stable_how_laws : IsGrammar stable_how
stable_how_laws = enumeration_laws stable_how_of stable_how_number stable_how_back

-- ---- createhow3

unchecked_is : (v : How) (a : NewAttributes) → unchecked_part v ≡ Some a → Unchecked a ≡ v
unchecked_is (Unchecked b) a e = cc
unchecked_is (Guarded b) a e = absurd cc
unchecked_is (Exclusive b) a e = absurd cc

guarded_is : (v : How) (a : NewAttributes) → guarded_part v ≡ Some a → Guarded a ≡ v
guarded_is (Unchecked b) a e = absurd cc
guarded_is (Guarded b) a e = cc
guarded_is (Exclusive b) a e = absurd cc

exclusive_is : (v : How) (a : List ℕ) → exclusive_part v ≡ Some a → Exclusive a ≡ v
exclusive_is (Unchecked b) a e = absurd cc
exclusive_is (Guarded b) a e = absurd cc
exclusive_is (Exclusive b) a e = cc

how_laws_at : (n : ℕ) → IsGrammar (how_arm n)
how_laws_at zero = variant_laws new_attributes (λ a. Unchecked a) unchecked_part new_attributes_laws (λ a. refl) unchecked_is
how_laws_at (suc zero) = variant_laws new_attributes (λ a. Guarded a) guarded_part new_attributes_laws (λ a. refl) guarded_is
how_laws_at (suc (suc zero)) = variant_laws (fixed 8) (λ v. Exclusive v) exclusive_part (fixed_laws 8) (λ a. refl) exclusive_is
how_laws_at (suc (suc (suc n))) = never_laws

how_is : (n : ℕ) (v : How) → (how_arm n).Has v → how_number v ≡ n
how_is zero (Unchecked a) h = refl
how_is zero (Guarded a) h = absurd h
how_is zero (Exclusive a) h = absurd h
how_is (suc zero) (Unchecked a) h = absurd h
how_is (suc zero) (Guarded a) h = refl
how_is (suc zero) (Exclusive a) h = absurd h
how_is (suc (suc zero)) (Unchecked a) h = absurd h
how_is (suc (suc zero)) (Guarded a) h = absurd h
how_is (suc (suc zero)) (Exclusive a) h = refl
how_is (suc (suc (suc n))) v h = absurd h

pub how_laws : IsGrammar how
unfolding how
how_laws = tagged_laws word how_arm how_number word_laws how_laws_at how_is

-- ---- the arguments of a procedure

get_attributes_is : (v : Operation) (h : List ℕ) → get_attributes_part v ≡ Some h → GetAttributes h ≡ v
get_attributes_is (GetAttributes k) h e = cc
get_attributes_is _ h e = absurd cc

set_attributes_is : (v : Operation) (p : List ℕ × (NewAttributes × Option Time)) → set_attributes_part v ≡ Some p → SetAttributes p.0 p.1.0 p.1.1 ≡ v
set_attributes_is (SetAttributes h a g) p e = let is = some_is (h, (a, g)) p e in rw (← is) refl
set_attributes_is _ p e = absurd cc

lookup_is : (v : Operation) (p : DirectoryEntry) → lookup_part v ≡ Some p → Lookup p ≡ v
lookup_is (Lookup q) p e = cc
lookup_is _ p e = absurd cc

read_is : (v : Operation) (p : List ℕ × (ℕ × ℕ)) → read_part v ≡ Some p → Read p.0 p.1.0 p.1.1 ≡ v
read_is (Read h o c) p e = let is = some_is (h, (o, c)) p e in rw (← is) refl
read_is _ p e = absurd cc

write_is : (v : Operation) (p : List ℕ × (ℕ × (ℕ × (StableHow × List ℕ)))) → write_part v ≡ Some p → Write p.0 p.1.0 p.1.1.0 p.1.1.1.0 p.1.1.1.1 ≡ v
write_is (Write h o c s b) p e = let is = some_is (h, (o, (c, (s, b)))) p e in rw (← is) refl
write_is _ p e = absurd cc

create_is : (v : Operation) (p : DirectoryEntry × How) → create_part v ≡ Some p → Create p.0 p.1 ≡ v
create_is (Create q h) p e = let is = some_is (q, h) p e in rw (← is) refl
create_is _ p e = absurd cc

remove_is : (v : Operation) (p : DirectoryEntry) → remove_part v ≡ Some p → Remove p ≡ v
remove_is (Remove q) p e = cc
remove_is _ p e = absurd cc

commit_is : (v : Operation) (p : List ℕ × (ℕ × ℕ)) → commit_part v ≡ Some p → Commit p.0 p.1.0 p.1.1 ≡ v
commit_is (Commit h o c) p e = let is = some_is (h, (o, c)) p e in rw (← is) refl
commit_is _ p e = absurd cc

pub arguments_laws : (p : Procedure) → IsGrammar (arguments p)
unfolding arguments
arguments_laws procedure.Null = only_laws Null
arguments_laws procedure.GetAttributes = variant_laws _ _ _ (opaque_laws 64) (λ x. refl) get_attributes_is
arguments_laws procedure.SetAttributes = variant_laws _ _ _ (pair_laws _ _ (opaque_laws 64) (pair_laws _ _ new_attributes_laws (optional_laws time time_laws))) (λ x. refl) set_attributes_is
arguments_laws procedure.Lookup = variant_laws _ _ _ entry_laws (λ x. refl) lookup_is
arguments_laws procedure.Read = variant_laws _ _ _ (pair_laws _ _ (opaque_laws 64) (pair_laws _ _ hyper_laws word_laws)) (λ x. refl) read_is
arguments_laws procedure.Write = variant_laws _ _ _ (pair_laws _ _ (opaque_laws 64) (pair_laws _ _ hyper_laws (pair_laws _ _ word_laws (pair_laws _ _ stable_how_laws (opaque_laws 4294967295))))) (λ x. refl) write_is
arguments_laws procedure.Create = variant_laws _ _ _ (pair_laws _ _ entry_laws how_laws) (λ x. refl) create_is
arguments_laws procedure.Remove = variant_laws _ _ _ entry_laws (λ x. refl) remove_is
arguments_laws procedure.Commit = variant_laws _ _ _ (pair_laws _ _ (opaque_laws 64) (pair_laws _ _ hyper_laws word_laws)) (λ x. refl) commit_is
