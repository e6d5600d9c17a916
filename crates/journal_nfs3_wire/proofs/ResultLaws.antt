-- The laws of the items of handles and results.
use Rattle.std.proofs.Common.{◌≡◌, refl, sym, ap, Option, Some, None, Result, Ok, Err}
use Rattle.journal_xdr.specs.Items.{Item, IsGrammar}
use Rattle.journal_xdr.specs.ItemLaws.{pair_laws, made_laws, coded_laws, such_that_laws, tagged_laws, only_laws, variant_laws}
use Rattle.journal_xdr.specs.BasicLaws.{word_laws, hyper_laws, boolean_laws, fixed_laws, opaque_laws, optional_laws, enumeration_laws, constant_laws, listed_back}
use Rattle.journal_nfs3_wire.specs.declared.procedure.Procedure.{Procedure}
use Rattle.journal_nfs3_wire.specs.declared.procedure.Procedure.TheVariants as procedure
use Rattle.journal_nfs3_wire.specs.declared.results.NfsError.{NfsError}
use Rattle.journal_nfs3_wire.specs.Handles.{file_handle, used_handle}
use Rattle.journal_nfs3_wire.specs.Whole.{whole}
use Rattle.journal_nfs3_wire.specs.Results.{statuses, status, nfs_status, status_number, accepted_part, refused_part, outcome_arm, outcome_status, outcome, given_handle, Fattr, fattr, post_op_attributes, before, Change, change, LookupResults, lookup_results, ReadResults, read_results, WriteResults, write_results, CreateResults, create_results, CommitResults, commit_results, Results, Null, GetAttributes, SetAttributes, Lookup, Read, Write, Create, Remove, Commit, get_attributes_results_part, set_attributes_results_part, lookup_results_part, read_results_part, write_results_part, create_results_part, remove_results_part, commit_results_part, nothing, results}
use Rattle.journal_nfs3_wire.proofs.ArgumentLaws.{time_laws, stable_how_laws}
use Rattle.journal_nfs3_wire.proofs.WholeLaws.{whole_is}

-- ---- handles

pub file_handle_laws : IsGrammar file_handle
unfolding file_handle
file_handle_laws = made_laws _ _ _ (pair_laws _ _ (constant_laws 1246645297) (pair_laws _ _ word_laws word_laws)) (λ p. refl) (λ h. refl)

pub used_handle_laws : IsGrammar used_handle
used_handle_laws = such_that_laws _ file_handle file_handle_laws

pub given_handle_laws : IsGrammar given_handle
unfolding given_handle
given_handle_laws = coded_laws _ (whole file_handle) file_handle.spelling (opaque_laws 64) (λ bytes h has e. let s = whole_is file_handle file_handle_laws bytes h e in sym s.is)

-- ---- types

pub fattr_laws : IsGrammar fattr
unfolding fattr
fattr_laws =
    let w = word_laws in
    let h = hyper_laws in
    made_laws _ _ _ (pair_laws _ _ w (pair_laws _ _ w (pair_laws _ _ w (pair_laws _ _ w (pair_laws _ _ w (pair_laws _ _ h (pair_laws _ _ h (pair_laws _ _ (pair_laws _ _ w w)
    (pair_laws _ _ h (pair_laws _ _ h (pair_laws _ _ time_laws (pair_laws _ _ time_laws time_laws)))))))))))) (λ p. refl) (λ f. refl)

pub after_laws : IsGrammar post_op_attributes
after_laws = optional_laws fattr fattr_laws

before_laws : IsGrammar before
unfolding before
before_laws = made_laws _ _ _ (pair_laws _ _ hyper_laws (pair_laws _ _ time_laws time_laws)) (λ p. refl) (λ b. refl)

pub change_laws : IsGrammar change
unfolding change
change_laws = made_laws _ _ _ (pair_laws _ _ (optional_laws before before_laws) after_laws) (λ p. refl) (λ c. refl)

lookup_results_laws : IsGrammar lookup_results
unfolding lookup_results
lookup_results_laws = made_laws _ _ _ (pair_laws _ _ given_handle_laws (pair_laws _ _ after_laws after_laws)) (λ p. refl) (λ r. refl)

read_results_laws : IsGrammar read_results
unfolding read_results
read_results_laws = made_laws _ _ _ (pair_laws _ _ after_laws (pair_laws _ _ word_laws (pair_laws _ _ boolean_laws (opaque_laws 4294967295)))) (λ p. refl) (λ r. refl)

write_results_laws : IsGrammar write_results
unfolding write_results
write_results_laws = made_laws _ _ _ (pair_laws _ _ change_laws (pair_laws _ _ word_laws (pair_laws _ _ stable_how_laws (fixed_laws 8)))) (λ p. refl) (λ r. refl)

create_results_laws : IsGrammar create_results
unfolding create_results
create_results_laws = made_laws _ _ _ (pair_laws _ _ (optional_laws given_handle given_handle_laws) (pair_laws _ _ after_laws change_laws)) (λ p. refl) (λ r. refl)

commit_results_laws : IsGrammar commit_results
unfolding commit_results
commit_results_laws = made_laws _ _ _ (pair_laws _ _ change_laws (fixed_laws 8)) (λ p. refl) (λ r. refl)

-- ---- outcomes

status_laws : IsGrammar status
status_laws = enumeration_laws nfs_status status_number (listed_back status_number statuses (refl, (refl, (refl, (refl, (refl, (refl, (refl, (refl, (refl, (refl, (refl, (refl, (refl, (refl, (refl, (refl, (refl, (refl, (refl, (refl, (refl, tt))))))))))))))))))))))

accepted_is : {A B : Type 0} (v : Result A (NfsError × B)) (x : A) → accepted_part v ≡ Some x → Ok x ≡ v
accepted_is (Ok y) x e = cc
accepted_is (Err why) x e = absurd cc

refused_is : {A B : Type 0} (v : Result A (NfsError × B)) (x : NfsError × B) → refused_part v ≡ Some x → Err x ≡ v
refused_is (Ok y) x e = absurd cc
refused_is (Err why) x e = cc

arm_laws : {A B : Type 0} (ok : Item A) (refused : Item B) → IsGrammar ok → IsGrammar refused → (s : Option NfsError) → IsGrammar (outcome_arm ok refused s)
arm_laws ok refused lo lr None = variant_laws ok (λ v. Ok v) accepted_part lo (λ x. refl) accepted_is
arm_laws ok refused lo lr (Some why) = variant_laws _ (λ p. Err p) refused_part (pair_laws _ _ (only_laws why) lr) (λ x. refl) refused_is

arm_is : {A B : Type 0} (ok : Item A) (refused : Item B) (s : Option NfsError) (v : Result A (NfsError × B)) → (outcome_arm ok refused s).Has v → outcome_status v ≡ s
arm_is ok refused None (Ok x) h = refl
arm_is ok refused None (Err why) h = absurd h
arm_is ok refused (Some why) (Ok x) h = absurd h
arm_is ok refused (Some why) (Err p) h = ap (λ w. Some w) h.0

pub outcome_laws : {A B : Type 0} (ok : Item A) (refused : Item B) → IsGrammar ok → IsGrammar refused → IsGrammar (outcome ok refused)
outcome_laws ok refused lo lr = tagged_laws status (outcome_arm ok refused) outcome_status status_laws (arm_laws ok refused lo lr) (arm_is ok refused)

-- ---- the results of a procedure

get_attributes_is : (v : Results) (r : Result Fattr (NfsError × Unit {0})) → get_attributes_results_part v ≡ Some r → GetAttributes r ≡ v
get_attributes_is (GetAttributes q) r e = cc
get_attributes_is _ r e = absurd cc

set_attributes_is : (v : Results) (r : Result Change (NfsError × Change)) → set_attributes_results_part v ≡ Some r → SetAttributes r ≡ v
set_attributes_is (SetAttributes q) r e = cc
set_attributes_is _ r e = absurd cc

lookup_is : (v : Results) (r : Result LookupResults (NfsError × Option Fattr)) → lookup_results_part v ≡ Some r → Lookup r ≡ v
lookup_is (Lookup q) r e = cc
lookup_is _ r e = absurd cc

read_is : (v : Results) (r : Result ReadResults (NfsError × Option Fattr)) → read_results_part v ≡ Some r → Read r ≡ v
read_is (Read q) r e = cc
read_is _ r e = absurd cc

write_is : (v : Results) (r : Result WriteResults (NfsError × Change)) → write_results_part v ≡ Some r → Write r ≡ v
write_is (Write q) r e = cc
write_is _ r e = absurd cc

create_is : (v : Results) (r : Result CreateResults (NfsError × Change)) → create_results_part v ≡ Some r → Create r ≡ v
create_is (Create q) r e = cc
create_is _ r e = absurd cc

remove_is : (v : Results) (r : Result Change (NfsError × Change)) → remove_results_part v ≡ Some r → Remove r ≡ v
remove_is (Remove q) r e = cc
remove_is _ r e = absurd cc

commit_is : (v : Results) (r : Result CommitResults (NfsError × Change)) → commit_results_part v ≡ Some r → Commit r ≡ v
commit_is (Commit q) r e = cc
commit_is _ r e = absurd cc

pub results_laws : (p : Procedure) → IsGrammar (results p)
unfolding results
results_laws procedure.Null = only_laws Null
results_laws procedure.GetAttributes = variant_laws _ _ _ (outcome_laws fattr nothing fattr_laws (only_laws tt)) (λ x. refl) get_attributes_is
results_laws procedure.SetAttributes = variant_laws _ _ _ (outcome_laws change change change_laws change_laws) (λ x. refl) set_attributes_is
results_laws procedure.Lookup = variant_laws _ _ _ (outcome_laws lookup_results post_op_attributes lookup_results_laws after_laws) (λ x. refl) lookup_is
results_laws procedure.Read = variant_laws _ _ _ (outcome_laws read_results post_op_attributes read_results_laws after_laws) (λ x. refl) read_is
results_laws procedure.Write = variant_laws _ _ _ (outcome_laws write_results change write_results_laws change_laws) (λ x. refl) write_is
results_laws procedure.Create = variant_laws _ _ _ (outcome_laws create_results change create_results_laws change_laws) (λ x. refl) create_is
results_laws procedure.Remove = variant_laws _ _ _ (outcome_laws change change change_laws change_laws) (λ x. refl) remove_is
results_laws procedure.Commit = variant_laws _ _ _ (outcome_laws commit_results change commit_results_laws change_laws) (λ x. refl) commit_is
