-- What a slot fetched shows as the rules say, in every mode.
use Rattle.std.proofs.Common.{◌≡◌, ℕ, ◌-◌, ◌/◌, ◌%◌, ◌<◌, ◌≤◌, Bool, true, false, cond, List, [], map, length, get_or, sym, refl, ap, ◌∙◌, arith, le-ltb, lt-ltb}
use native.Mathlib.Decide.{dec_lt}
use Rattle.nick.specs.Numbers.{up, byte_at}
use Rattle.nick.specs.Slots.{Mode, VSYNC, PIXEL, ATTR, CH, UNUSED, LPIXEL, font_address, slot_fetches, slot_pointers, dot_addresses}
use Rattle.nick.specs.Colour.{two, colours_of, graphics_pixel, pixel_of, character_added, attribute_pixel, dot_in}
use Rattle.nick.specs.External.{mixed_colour, dot_colour}
use Rattle.nick.specs.declared.Registers.{Registers}
use Rattle.nick.specs.declared.Pointers.{Pointers}
use Rattle.nick.specs.declared.Block.{Block}
use Rattle.nick.specs.declared.Pixel.{Pixel}
use Rattle.colour.specs.Cell.{graphics_cell, cell_pixel}
use Rattle.colour.proofs.Cells.{graphics_pixel_lem, character_pixel, attribute_pixel_lem, sharing_halves}
use Rattle.fetch.specs.Fetches.{fetched_at, halves_pixel, slot_dot}

module _ (g : Registers) (ram : List ℕ) (b : Block) (p : Pointers) where
  -- the pixel of a PIXEL slot: its byte by its half of the slot, its place in the byte by the rest
  pub pixel_dot : (j : ℕ) → j < 16
      → halves_pixel (graphics_cell b (byte_at ram p.ld1)) (graphics_cell b (byte_at ram (up 1 p.ld1))) j
      ≡ cell_pixel (graphics_cell b (byte_at ram (get_or (slot_fetches PIXEL ram p) (j / 8) 0))) (j % 8)
  pixel_dot j h = go (dec_lt j 8)
    where
      go : Dec (j < 8)
          → halves_pixel (graphics_cell b (byte_at ram p.ld1)) (graphics_cell b (byte_at ram (up 1 p.ld1))) j
          ≡ cell_pixel (graphics_cell b (byte_at ram (get_or (slot_fetches PIXEL ram p) (j / 8) 0))) (j % 8)
      go (yes l) =
          let half : j / 8 ≡ 0 = omega arith in
          let rest : j % 8 ≡ j = omega arith in
          rw (half, rest, lt-ltb j 8 l)
      go (no l) =
          let half : j / 8 ≡ 1 = omega arith in
          let rest : j % 8 ≡ j - 8 = omega arith in
          rw (half, rest, le-ltb j 8 (omega arith))

  -- a dot of a slot in a video mode
  pub mode_dot : (active : Bool) (m : Mode) (j e : ℕ) → j < 16 → byte_at ram p.ld1 < 256
      → slot_dot g b m (fetched_at active m ram b p).cells j e
      ≡ dot_colour g b (dot_in m active b (colours_of b) (map (byte_at ram) (dot_addresses m ram p j)) j) e
  mode_dot false VSYNC j e h l = refl
  mode_dot false PIXEL j e h l = refl
  mode_dot false ATTR j e h l = refl
  mode_dot false (CH width) j e h l = refl
  mode_dot false UNUSED j e h l = refl
  mode_dot false LPIXEL j e h l = refl
  mode_dot true VSYNC j e h l = refl
  mode_dot true PIXEL j e h l =
      let byte = byte_at ram (get_or (slot_fetches PIXEL ram p) (j / 8) 0) in
      ap (λ (q : Pixel). mixed_colour g b q e) (pixel_dot j h ∙ graphics_pixel_lem b byte (j % 8))
  mode_dot true ATTR j e h l =
      let attribute = byte_at ram p.ld1 in
      let byte = byte_at ram p.ld2 in
      ap (λ (q : Pixel). mixed_colour g b q e)
      (attribute_pixel_lem attribute byte (j / 2) l ∙ ap (attribute_pixel attribute byte) (sym (sharing_halves two j)))
  mode_dot true (CH width) j e h l =
      let cs = colours_of b in
      let code = byte_at ram p.ld1 in
      let byte = byte_at ram (font_address width p.ld2 code) in
      ap (λ (q : Pixel). mixed_colour g b q e)
      (character_pixel b code byte (j / 2) ∙ ap (pixel_of cs (character_added b code) byte) (sym (sharing_halves cs j)))
  mode_dot true UNUSED j e h l = refl
  mode_dot true LPIXEL j e h l =
      let cs = colours_of b in
      let byte = byte_at ram p.ld1 in
      ap (λ (q : Pixel). mixed_colour g b q e) (graphics_pixel_lem b byte (j / 2) ∙ ap (graphics_pixel cs b byte) (sym (sharing_halves cs j)))

-- the pointers after a slot, and how many bytes it fetches, at most two
module _ (ram : List ℕ) (b : Block) (p : Pointers) where
  pub moved : (active : Bool) (m : Mode) → (fetched_at active m ram b p).at ≡ cond active (slot_pointers m p) p
  moved false m = refl
  moved true VSYNC = refl
  moved true PIXEL = refl
  moved true ATTR = refl
  moved true (CH width) = refl
  moved true UNUSED = refl
  moved true LPIXEL = refl

  pub counted : (active : Bool) (m : Mode) → (fetched_at active m ram b p).count ≡ length (cond active (slot_fetches m ram p) [])
  counted false m = refl
  counted true VSYNC = refl
  counted true PIXEL = refl
  counted true ATTR = refl
  counted true (CH width) = refl
  counted true UNUSED = refl
  counted true LPIXEL = refl

  pub few : (active : Bool) (m : Mode) → (fetched_at active m ram b p).count ≤ 2
  few false m = omega arith
  few true VSYNC = omega arith
  few true PIXEL = omega arith
  few true ATTR = omega arith
  few true (CH width) = omega arith
  few true UNUSED = omega arith
  few true LPIXEL = omega arith
