-- Small files cut, computed of the definition.
use mathlib.Core.Path.{◌≡◌, refl}
use mathlib.Core.List.{[], ◌∷◌}
use Rattle.feed.specs.Cut.{cut, cut_from, last_of, front, ends_at, left_over}

-- an empty file has no record
empty_file : cut [] ≡ []
unfolding cut_from last_of front ends_at left_over
empty_file = refl

-- CR LF alone ends an empty record, and CR LF CR LF two
line_end : cut (13 ∷ 10 ∷ []) ≡ [] ∷ []
unfolding cut_from last_of front ends_at left_over
line_end = refl

two_line_ends : cut (13 ∷ 10 ∷ 13 ∷ 10 ∷ []) ≡ [] ∷ [] ∷ []
unfolding cut_from last_of front ends_at left_over
two_line_ends = refl

-- a file that ends in CR LF has no further record; one that does not has one
with_end : cut (65 ∷ 13 ∷ 10 ∷ 66 ∷ 13 ∷ 10 ∷ []) ≡ (65 ∷ []) ∷ (66 ∷ []) ∷ []
unfolding cut_from last_of front ends_at left_over
with_end = refl

without_end : cut (65 ∷ 13 ∷ 10 ∷ 66 ∷ []) ≡ (65 ∷ []) ∷ (66 ∷ []) ∷ []
unfolding cut_from last_of front ends_at left_over
without_end = refl

-- a lone CR or LF is a byte of its record, also the last, and of CR CR LF the first CR is
lone_bytes : cut (65 ∷ 13 ∷ 66 ∷ 10 ∷ 13 ∷ 13 ∷ 10 ∷ 10 ∷ 13 ∷ []) ≡ (65 ∷ 13 ∷ 66 ∷ 10 ∷ 13 ∷ []) ∷ (10 ∷ 13 ∷ []) ∷ []
unfolding cut_from last_of front ends_at left_over
lone_bytes = refl
