-- Whoever holds a share of schools in memory knows that each is formed: ten bytes, two bytes, and a number of four. So any walk that looks into the slice has the premise of `Agreement`.
use mathlib.Core.List.{List, [], ◌∷◌}
use Prim.Native.Nat.{ℕ, ◌+◌}
use seplogic.Ra.Ura.{Ura}
use mir.Val.{Val}
use base.Logic.{ent, guard_i}
use base.Fml.{Share, fsep}
use types.Logic.{Logic, sem}
use types.Kit.{‵, given, ⋆, ◌$◌, ◌∵◌, !, qed, move, use1, learn, fsplit, fjoin, fpick, fpack, check, done}
use denote.Laws.{Is, shows}
use denote.Memory.{cell_at, mem, part_of}
use denote.Index.{row}
use denote.Steps.{peeks}
use denote.Struct.Laws as LL
use Rattle.roster.specs.Schools.{Formed, AllFormed}
use Rattle.roster.specs.declared.schools.School.{School}
use Rattle.roster.specs.contracts.schools.School as T
use Rattle.roster.proofs.schools.School.TheLaws as T'

-- what the type's relation says of one school
one_formed : (s : School) (vs : List Val) → Is T.the_row s vs → Formed s
one_formed s vs g =
    let h = LL.owed T.the_type T'.the_laws s vs g in
    record {
      address_is = h.0.1.0.1;
      qualifier_is = h.1.0.1.0.1;
      ceiling_fits = h.1.1.0.1;
    }

module _ {M : Type 1} {𝓤 : Ura M} (𝓛 : Logic 𝓤) (q : Share) (b : ℕ) where
  pub all_formed : (ys : List School) (o : ℕ) → ent 𝓤 (sem 𝓛 (row T.the_row q ys b o)) (⋆ 𝓛 (given (AllFormed ys) (‵ (row T.the_row q ys b o)) ∷ []))
  unfolding part_of
  all_formed [] o = guard_i 𝓤 (AllFormed []) (sem 𝓛 (row T.the_row q [] b o)) tt
  all_formed (y ∷ ys) o =
      qed 𝓛 (‵ (row T.the_row q (y ∷ ys) b o) ∷ []) ∵ fsplit ! $ move ! (1 ∷ []) $
      use1 𝓛 (given (AllFormed ys) (‵ (row T.the_row q ys b (o + (mem T.the_row).size)))) (all_formed ys (o + (mem T.the_row).size)) $ learn ! (λ others. move ! (1 ∷ []) $
      fpick ! (λ vs. fsplit ! $ move ! (1 ∷ []) $ peeks ! T.the_row (Is T.the_row) (shows 𝓛 T.the_row) y vs (λ g. move ! (1 ∷ 0 ∷ []) $ fjoin ! $
      fpack ! (List Val) (λ us. fsep (cell_at q (T.the_row).mir us b o) ((T.the_row).own_val y us)) vs $ check ! (one_formed y vs g, others) $ done !)))
