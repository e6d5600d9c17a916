-- The procedures of MOUNT, by their numbers (RFC 1813, appendix I).
use Rattle.std.specs.Prelude.{◌≡◌, refl, ℕ, List, [], ◌∷◌, Option, Some}
use Rattle.journal_xdr.specs.Basic.{listed}
use Rattle.journal_xdr.specs.BasicLaws.{listed_back}
use Rattle.journal_mount_wire.specs.declared.procedure.MountProcedure.{MountProcedure}
use Rattle.journal_mount_wire.specs.declared.procedure.MountProcedure.TheVariants.{Null, Mount, Dump, Unmount, UnmountAll, Export}

abbrev pub mount_procedures : List (ℕ × MountProcedure)
mount_procedures = (0, Null) ∷ (1, Mount) ∷ (2, Dump) ∷ (3, Unmount) ∷ (4, UnmountAll) ∷ (5, Export) ∷ []

abbrev pub mount_procedure_of : ℕ → Option MountProcedure
mount_procedure_of n = listed mount_procedures n

abbrev pub mount_procedure_number : MountProcedure → ℕ
mount_procedure_number Null = 0
mount_procedure_number Mount = 1
mount_procedure_number Dump = 2
mount_procedure_number Unmount = 3
mount_procedure_number UnmountAll = 4
mount_procedure_number Export = 5

pub mount_procedure_is : (p : MountProcedure) → mount_procedure_of (mount_procedure_number p) ≡ Some p
mount_procedure_is Null = refl
mount_procedure_is Mount = refl
mount_procedure_is Dump = refl
mount_procedure_is Unmount = refl
mount_procedure_is UnmountAll = refl
mount_procedure_is Export = refl

pub mount_procedure_back : (n : ℕ) (p : MountProcedure) → mount_procedure_of n ≡ Some p → mount_procedure_number p ≡ n
mount_procedure_back = listed_back mount_procedure_number mount_procedures (refl, (refl, (refl, (refl, (refl, (refl, tt))))))
