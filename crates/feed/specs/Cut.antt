-- A file cut into records (RULES 10), and what is kept of it from byte to byte.
use Rattle.std.specs.Prelude.{ℕ, ◌+◌, ◌-◌, min, ◌≡◌, Bool, ◌&&◌, List, [], ◌∷◌, ◌++◌, eqb, ltb, length, take, set}
use Rattle.cells.specs.Bytes.{pick}
use Rattle.feed.specs.declared.Held.{Held}

-- the last byte of a list, or the number given where it is empty
unfoldable pub last_of : ℕ → List ℕ → ℕ
last_of d [] = d
last_of d (b ∷ bs) = last_of b bs

-- a list without its last byte
unfoldable pub front : List ℕ → List ℕ
front s = take (length s - 1) s

-- with these bytes since the last CR LF, the next one ends a record: a CR is followed by a LF
unfoldable pub ends_at : List ℕ → ℕ → Bool
ends_at held b = eqb (last_of 0 held) 13 && eqb b 10

-- what stands behind the last CR LF is a record too, unless it is nothing (RULES 10)
unfoldable pub left_over : List ℕ → List (List ℕ)
left_over [] = []
left_over (b ∷ bs) = (b ∷ bs) ∷ []

-- the records of what is still to come, where `held` came since the last CR LF
unfoldable pub cut_from : List ℕ → List ℕ → List (List ℕ)
cut_from held [] = left_over held
cut_from held (b ∷ bs) = pick (ends_at held b) (front held ∷ cut_from [] bs) (cut_from (held ++ (b ∷ [])) bs)

-- the records of a file: each ends with CR LF; a lone CR or LF is a byte of its record
abbrev pub cut : List ℕ → List (List ℕ)
cut file = cut_from [] file

-- the buffer holds the first 1,025 bytes since the last CR LF, which are counted up to 1,026
abbrev pub most_held : ℕ
most_held = 1025

abbrev pub most_counted : ℕ
most_counted = 1026

-- what is kept beside the buffer of the bytes since the last CR LF
unfoldable pub held_of : List ℕ → Held
held_of held = record { count = min (length held) most_counted; cr = eqb (last_of 0 held) 13 }

-- what the steps give: whether a byte ends a record, and what is kept where it does not
unfoldable pub ends_now : Held → ℕ → Bool
ends_now h b = h.cr && eqb b 10

unfoldable pub held_next : Held → ℕ → Held
held_next h b = record { count = min (h.count + 1) most_counted; cr = eqb b 13 }

unfoldable pub buffer_next : Held → List ℕ → ℕ → List ℕ
buffer_next h buffer b = pick (ltb h.count most_held) (set buffer h.count b) buffer

-- how many bytes of the buffer are a record, where a CR LF ends it and where the file does
unfoldable pub ended_length : Held → ℕ
ended_length h = min (h.count - 1) most_held

unfoldable pub left_length : Held → ℕ
left_length h = min h.count most_held

-- these are the bytes since the last CR LF, and this is what is kept of them
pub record Holds (h : Held) (buffer held : List ℕ) : Type 0 where
  pub counts : h ≡ held_of held
  pub keeps : take (left_length h) buffer ≡ take most_held held
  pub wide : length buffer ≡ most_held

-- the first bytes of each record, as many as the buffer has room for
unfoldable pub firsts : List (List ℕ) → List (List ℕ)
firsts [] = []
firsts (s ∷ ss) = take most_held s ∷ firsts ss

-- the record that the buffer holds at the end of the file, if any
unfoldable pub fed_last : Held → List ℕ → List (List ℕ)
fed_last h buffer = pick (eqb (left_length h) 0) [] (take (left_length h) buffer ∷ [])

-- the records that the steps give, byte after byte
unfoldable pub fed_from : Held → List ℕ → List ℕ → List (List ℕ)
fed_from h buffer [] = fed_last h buffer
fed_from h buffer (b ∷ bs) =
    pick (ends_now h b) (take (ended_length h) buffer ∷ fed_from (held_of []) buffer bs) (fed_from (held_next h b) (buffer_next h buffer b) bs)
