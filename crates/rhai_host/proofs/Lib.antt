mod Boxed
mod BytesAsText
mod Pair
