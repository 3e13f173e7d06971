-- What f64s are converted to: Q15 or Q14 in two bytes, f32 in four. Definitions only.
pub data Format : Type 0 where
  Q15 : Format
  Q14 : Format
  Single : Format
