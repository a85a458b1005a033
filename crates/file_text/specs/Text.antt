-- The texts of a report, as lists of bytes in ASCII.
use Rattle.std.specs.Prelude.{◌≡◌, refl, cond, List, [], ◌∷◌, ◌++◌, ℕ, zero, suc, ◌+◌, ◌*◌, ◌/◌, ◌%◌, ltb, ℤ, pos, negsuc, get_or}
use Rattle.integers.specs.Integer.{eq_z}
use Rattle.lines.specs.Limits.{absent_least, absent_greatest}

abbrev pub space : List ℕ
space = 32 ∷ []

abbrev pub newline : List ℕ
newline = 10 ∷ []

abbrev pub minus : List ℕ
minus = 45 ∷ []

abbrev pub dot : List ℕ
dot = 46 ∷ []

-- "yes" and "no" with their newline, "refused" with a space
abbrev pub yes_word : List ℕ
yes_word = 121 ∷ 101 ∷ 115 ∷ 10 ∷ []

abbrev pub no_word : List ℕ
no_word = 110 ∷ 111 ∷ 10 ∷ []

abbrev pub refused_word : List ℕ
refused_word = 114 ∷ 101 ∷ 102 ∷ 117 ∷ 115 ∷ 101 ∷ 100 ∷ 32 ∷ []

-- ---- numbers
-- n in decimal, for n below the first argument: the digits of n / 10, where that is not 0, and then the last one
unfoldable pub decimal_below : ℕ → ℕ → List ℕ
decimal_below zero n = []
decimal_below (suc m) n = cond (ltb n 10) [] (decimal_below m (n / 10)) ++ (48 + n % 10) ∷ []

unfoldable pub decimal_of : ℕ → List ℕ
decimal_of n = decimal_below (suc n) n

-- with a minus sign in front where it is below 0
unfoldable pub signed_text : ℤ → List ℕ
signed_text (pos n) = decimal_of n
signed_text (negsuc n) = minus ++ decimal_of (suc n)

-- a bound, where `absent` stands for none
abbrev pub bound_text : ℤ → ℤ → List ℕ
bound_text absent z = cond (eq_z z absent) dot (signed_text z)

-- ---- yes
-- a variable's line: its number, value, least, greatest, group variable and sign
unfoldable pub line_text : ℕ → List ℤ → List ℤ → List ℕ → List ℕ
line_text x model bounds groups =
    decimal_of x
    ++ space
    ++ signed_text (get_or model x (pos 0))
    ++ space
    ++ bound_text absent_least (get_or bounds (2 * x) (pos 0))
    ++ space
    ++ bound_text absent_greatest (get_or bounds (2 * x + 1) (pos 0))
    ++ space
    ++ decimal_of (get_or groups (2 * x) 0)
    ++ space
    ++ decimal_of (get_or groups (2 * x + 1) 0)
    ++ newline

-- the lines of the first n variables
unfoldable pub lines_text : ℕ → List ℤ → List ℤ → List ℕ → List ℕ
lines_text zero model bounds groups = []
lines_text (suc n) model bounds groups = lines_text n model bounds groups ++ line_text n model bounds groups

unfoldable pub yes_text : ℕ → List ℤ → List ℤ → List ℕ → List ℕ
yes_text n model bounds groups = yes_word ++ lines_text n model bounds groups

-- ---- no
-- numbers, each after a space
unfoldable pub followed : List ℕ → List ℕ
followed [] = []
followed (n ∷ ns) = space ++ decimal_of n ++ followed ns

-- numbers with one space between
unfoldable pub spaced : List ℕ → List ℕ
spaced [] = []
spaced (n ∷ ns) = decimal_of n ++ followed ns

unfoldable pub no_text : List ℕ → List ℕ
no_text numbers = no_word ++ spaced numbers ++ newline

-- ---- refused
unfoldable pub refused_text : ℕ → ℕ → List ℕ
refused_text number place = refused_word ++ decimal_of number ++ space ++ decimal_of place ++ newline

-- ---- examples
-- one variable with x ≤ 5: "yes", then "0 0 . 5 0 0"
one_variable : yes_text 1 (pos 0 ∷ []) (absent_least ∷ pos 5 ∷ []) (0 ∷ 0 ∷ []) ≡ 121 ∷ 101 ∷ 115 ∷ 10 ∷ 48 ∷ 32 ∷ 48 ∷ 32 ∷ 46 ∷ 32 ∷ 53 ∷ 32 ∷ 48 ∷ 32 ∷ 48 ∷ 10 ∷ []
unfolding yes_text lines_text line_text signed_text decimal_of decimal_below
one_variable = refl

-- "refused 20 0"
cut_header : refused_text 20 0 ≡ 114 ∷ 101 ∷ 102 ∷ 117 ∷ 115 ∷ 101 ∷ 100 ∷ 32 ∷ 50 ∷ 48 ∷ 32 ∷ 48 ∷ 10 ∷ []
unfolding refused_text decimal_of decimal_below
cut_header = refl

-- "no", then "1 0 307"
three_numbers : no_text (1 ∷ 0 ∷ 307 ∷ []) ≡ 110 ∷ 111 ∷ 10 ∷ 49 ∷ 32 ∷ 48 ∷ 32 ∷ 51 ∷ 48 ∷ 55 ∷ 10 ∷ []
unfolding no_text spaced followed decimal_of decimal_below
three_numbers = refl
