-- The arguments of each procedure are an item.
use Rattle.std.proofs.Common.{◌≡◌, ℕ, List, Some, refl}
use Rattle.journal_xdr.specs.Items.{IsGrammar}
use Rattle.journal_xdr.specs.ItemLaws.{only_laws, variant_laws}
use Rattle.journal_xdr.specs.BasicLaws.{string_laws}
use Rattle.journal_mount_wire.specs.declared.procedure.MountProcedure.{MountProcedure}
use Rattle.journal_mount_wire.specs.declared.procedure.MountProcedure.TheVariants as mount_procedure
use Rattle.journal_mount_wire.specs.Arguments.{MountCall, Null, Mount, Dump, Unmount, UnmountAll, Export, mount_part, unmount_part, mount_arguments}

mount_is : (v : MountCall) (p : List ℕ) → mount_part v ≡ Some p → Mount p ≡ v
mount_is (Mount q) p e = cc
mount_is _ p e = absurd cc

unmount_is : (v : MountCall) (p : List ℕ) → unmount_part v ≡ Some p → Unmount p ≡ v
unmount_is (Unmount q) p e = cc
unmount_is _ p e = absurd cc

pub arguments_laws : (p : MountProcedure) → IsGrammar (mount_arguments p)
unfolding mount_arguments
arguments_laws mount_procedure.Null = only_laws Null
arguments_laws mount_procedure.Mount = variant_laws _ _ _ (string_laws 1024) (λ x. refl) mount_is
arguments_laws mount_procedure.Dump = only_laws Dump
arguments_laws mount_procedure.Unmount = variant_laws _ _ _ (string_laws 1024) (λ x. refl) unmount_is
arguments_laws mount_procedure.UnmountAll = only_laws UnmountAll
arguments_laws mount_procedure.Export = only_laws Export
