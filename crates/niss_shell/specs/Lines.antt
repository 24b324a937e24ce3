-- The lines of a text, and how a text is cut at a byte.
use Rattle.std.specs.Prelude.{◌≡◌, ◌≢◌, ℕ, ◌==◌, if◌then◌else◌, List, [], ◌∷◌, ◌++◌, All, flat_map}

abbrev pub line_feed : ℕ
line_feed = 10

abbrev pub space : ℕ
space = 32

-- the lines that a line feed ends, if `front` stands before the bytes
unfoldable pub ended_lines : List ℕ → List ℕ → List (List ℕ)
ended_lines front [] = []
ended_lines front (b ∷ bs) =
    if b == line_feed then front ∷ ended_lines [] bs else ended_lines (front ++ b ∷ []) bs

-- what stands after the last line feed
unfoldable pub last_part : List ℕ → List ℕ → List ℕ
last_part front [] = front
last_part front (b ∷ bs) =
    if b == line_feed then last_part [] bs else last_part (front ++ b ∷ []) bs

-- no byte of the part is this one
abbrev pub HasNo : ℕ → List ℕ → Type 0
HasNo byte part = All (λ b. b ≢ byte) part

-- a part, and the byte that ends it
abbrev pub ended_by : ℕ → List ℕ → List ℕ
ended_by byte part = part ++ byte ∷ []

-- The text is these parts, each with the byte that ends it, and the last part after them. The byte stands nowhere else.
pub record IsCutAt (byte : ℕ) (text : List ℕ) (parts : List (List ℕ)) (last : List ℕ) : Type 0 where
  pub unbroken_parts : All (HasNo byte) parts
  pub unbroken_last : HasNo byte last
  pub whole : flat_map (ended_by byte) parts ++ last ≡ text
