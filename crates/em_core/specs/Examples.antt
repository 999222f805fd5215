-- Cores written by hand, each beside the Rust program that it stands for. A program begins with `struct D(i32)`, whose Drop impl prints `drop` and its number, `struct P { a: D, b: D }` and `fn eat(d: D) {}`.
pub mod Short
pub mod Drops
pub mod Panics
pub mod Closures
pub mod Values
pub mod Places
pub mod Types
