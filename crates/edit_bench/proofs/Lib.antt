mod Movable
