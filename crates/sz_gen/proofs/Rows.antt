-- Small cases worked by another program from the rules alone, each the same as what the definitions
-- compute.
-- The key idea: at a written-out seed and side each definition is a computation, so each row is its
-- own proof.
use Rattle.std.proofs.Common.{◌≡◌, [], ◌∷◌, codes, refl}
use Rattle.std.specs.Fmt.{digits}
use Rattle.sz_gen.specs.Draws.{next_number, number_after, draw_of}
use Rattle.sz_gen.specs.Lists.{items_text}
use Rattle.sz_gen.specs.Session.{draw_text, row_text, row_text_at, rows_text, array_line, ask_line, triple}
use Rattle.sz_gen.specs.Session.{way_back, way_forward, way_to_table}

-- the two numbers after the greatest seed, whose products go past 64 bits
pub numbers_after_greatest : number_after 4294967295 2 ≡ 12914357085154230089
unfolding number_after next_number
numbers_after_greatest = refl

-- the first draw of seed 0
pub first_draw : draw_of 0 1000 ≡ 807
unfolding draw_of next_number
first_draw = refl

-- the number that a draw reads before the remainder is taken
pub first_upper_bits : draw_of 0 4294967296 ≡ 167951807
unfolding draw_of next_number
first_upper_bits = refl

-- an image of two rows and two columns of seed 0
pub smallest_image : array_line (codes "img") 0 2 2 1000
    ≡ codes "{\"array\":\"img\",\"cells\":[[807,424],[937,236]]}"
unfolding array_line rows_text row_text_at row_text draw_text items_text draw_of number_after next_number digits
smallest_image = refl

-- an image of more columns than rows
pub wide_image : array_line (codes "img") 0 1 3 1000 ≡ codes "{\"array\":\"img\",\"cells\":[[807,424,937]]}"
unfolding array_line rows_text row_text_at row_text draw_text items_text draw_of number_after next_number digits
wide_image = refl

-- the first triple of seed 0 and side 3, which comes after 9 draws and 16
pub first_triple : triple 3 (number_after 0 25)
    ≡ codes "{\"ask\":1,\"dir\":\"back\",\"path\":[[3,0],[2,0],[1,0],[0,0]],\"cells\":[[1,1]]}"
    ∷ codes "{\"ask\":1,\"dir\":\"forward\",\"path\":[[0,0],[1,0],[2,0],[3,0]],\"cells\":[[1,2]]}"
    ∷ codes "{\"ask\":1,\"dir\":\"back\",\"path\":[[5,1]],\"cells\":[[0,2]]}"
    ∷ []
unfolding triple ask_line way_back way_forward way_to_table
    rows_text row_text_at row_text draw_text items_text draw_of number_after next_number digits
first_triple = refl
